-- A machine at entry and a body, from what can be computed: so that the hypotheses of promise 0.3 (docs/FORMAT.md) can be seen to be met.
-- Assumes nothing.
use Prim.Native.Nat.{ℕ, zero, suc, ◌+◌, ◌^◌, ◌<◌, ◌≤◌, max}
use mathlib.Core.Path.{◌≡◌, refl, ap, sym, ◌∙◌}
use mathlib.Core.List.{List, [], ◌∷◌, map}
use native.Mathlib.Omega.{arith}
use lib.ListN.{length, get_or, set}
use lib.Seq.{get_or-set_other}
use Rattle.frame.specs.Memory.{part}
use Rattle.frame.specs.Frame.{Regs, Slot, Frame, anchored}
use Rattle.frame.specs.Calls.{Machine, Unlisted, Keeps, Body, Entered}

abbrev pub largest : List ℕ → ℕ
largest [] = 0
largest (k ∷ ks) = max k (largest ks)

pub at_most : (ks : List ℕ) (k : ℕ) → get_or ks k 0 ≤ largest ks
at_most [] k = omega arith
at_most (x ∷ xs) zero = omega arith
at_most (x ∷ xs) (suc k) = omega (arith, at_most xs k)

-- `Entered` in numbers alone
pub record Enters (w n base cfa extent : ℕ) (mc : Machine) : Type 0 where
  pub many : length mc.regs.kept ≡ n
  pub words : largest mc.regs.kept < 256 ^ w
  pub low : base + extent ≤ cfa
  pub high : cfa ≤ base + length mc.mem
  pub top : base + length mc.mem < 256 ^ w

pub entered : (w n base cfa extent : ℕ) (mc : Machine) → Enters w n base cfa extent mc → Entered w n base cfa extent mc
entered w n base cfa extent mc e =
    record { many = e.many; words = λ k. omega (arith, at_most mc.regs.kept k, e.words); low = e.low; high = e.high; top = e.top }

-- the registers with each saved one at 0
abbrev pub wiped : List Slot → List ℕ → List ℕ
wiped [] ks = ks
wiped (s ∷ ss) ks = wiped ss (set ks s.reg 0)

wiped-other : (ss : List Slot) (ks : List ℕ) (k : ℕ) → Unlisted ss k → get_or (wiped ss ks) k 0 ≡ get_or ks k 0
wiped-other [] ks k u = refl
wiped-other (s ∷ ss) ks k u = wiped-other ss (set ks s.reg 0) k u.1 ∙ get_or-set_other ks s.reg k 0 0 (λ e. u.0 (sym e))

keeps : (w : ℕ) (ps m m' : List ℕ) → map (λ (p : ℕ). part w p m') ps ≡ map (λ (p : ℕ). part w p m) ps → Keeps w ps m m'
keeps w [] m m' e = tt
keeps w (p ∷ ps) m m' e = (cc, keeps w ps m m' (cc))

-- all that a body may not change, in one value
pub record Lasting : Type 0 where
  pub anchor : ℕ
  pub count : ℕ
  pub others : List ℕ
  pub long : ℕ
  pub slots : List (List ℕ)

abbrev pub lasting : ℕ → List ℕ → Frame → Regs → List ℕ → Lasting
lasting w ps f r m =
    record { anchor = anchored f.anchor r; count = length r.kept; others = wiped f.saved r.kept; long = length m; slots = map (λ (p : ℕ). part w p m) ps }

pub body : (w : ℕ) (ps : List ℕ) (f : Frame) (r r' : Regs) (m m' : List ℕ) → lasting w ps f r' m' ≡ lasting w ps f r m → Body w ps f r r' m m'
body w ps f r r' m m' e =
    record {
      regs = record {
        anchor = ap (λ (l : Lasting). l.anchor) e;
        count = ap (λ (l : Lasting). l.count) e;
        others = λ k u.
            sym (wiped-other f.saved r'.kept k u) ∙ ap (λ (l : Lasting). get_or l.others k 0) e ∙ wiped-other f.saved r.kept k u;
      };
      window = ap (λ (l : Lasting). l.long) e;
      slots = keeps w ps m m' (ap (λ (l : Lasting). l.slots) e);
    }
