-- What a rule says of each register: it is absent exactly where the frame has no slot of it, and else it says where its slot lies. One law over the
-- machine, and both machines' sound words.
-- Assumes nothing.
use Prim.Native.Nat.{◌-◌, ℕ, zero, suc, ◌+◌, ◌<◌}
use mathlib.Core.Path.{◌≡◌, refl, sym, subst}
use mathlib.Core.Logic.{◌⊎◌, inl, inr}
use mathlib.Core.List.{List, [], ◌∷◌}
use native.Mathlib.Omega.{arith}
use lib.ListN.{length, get_or, replicate, length-replicate}
use Rattle.frame.specs.Frame.{Slot, distances_of}
use Rattle.frame.specs.Calls.{All, Unlisted}
use Rattle.frame.specs.Pushes.{Named, pushed}
use Rattle.frame.specs.Fields.{field_slots}
use Rattle.frame.specs.Downwards.{down}
use Rattle.frame.proofs.Fielded.{Fields}
use Rattle.frame.proofs.Lowered.{Rising}
use Rattle.frame.proofs.Stores.{all_map, all_both}
use Rattle.frame.proofs.Distances.{distances-all, distances-zero, get_or-zeroes}
use Rattle.rules.specs.Answers.{absent, below, saved_at}
use Rattle.rules.specs.RulesX86 as rules-x86
use Rattle.rules.specs.RulesArm64 as rules-arm64
use Rattle.rules.specs.SoundX86 as x86
use Rattle.rules.specs.SoundArm64 as arm64
use Rattle.rules.proofs.ListsX86.{list-named}
use Rattle.rules.proofs.FramesX86 as frames-x86
use Rattle.rules.proofs.FramesArm64 as frames-arm64

-- slots of registers among n, below CFA
abbrev Placed : ℕ → List Slot → Type 0
Placed n ss = All (λ (s : Slot). (s.reg < n) × (0 < s.below)) ss

-- a slot of register r, d below CFA, is among them
abbrev pub Among : List Slot → ℕ → ℕ → Type 0
Among [] r d = ⊥
Among (s ∷ ss) r d = ((s.reg ≡ r) × (s.below ≡ d)) ⊎ Among ss r d

among-all : (ss : List Slot) → All (λ (s : Slot). Among ss s.reg s.below) ss
among-all [] = tt
among-all (s ∷ ss) = (inl (refl, refl), all_map (λ (t : Slot). Among ss t.reg t.below) (λ (t : Slot). Among (s ∷ ss) t.reg t.below) (λ t i. inr i) ss (among-all ss))

-- What is said of register r: absent, and it has no slot; or where its slot lies.
abbrev pub Said : List ℕ → List Slot → ℕ → Type 0
Said ds ss r = ((saved_at ds r ≡ absent) × Unlisted ss r) ⊎ ((d : ℕ) × (saved_at ds r ≡ below d) × Among ss r d)

said_of : (n : ℕ) (ss : List Slot) → Placed n ss → (r : ℕ) → Said (distances_of n ss) ss r
said_of n ss p r = go (get_or (distances_of n ss) r 0) refl
  where
    zeros : List ℕ
    zeros = replicate n 0

    long : (Q : ℕ → Type 0) → Q n → Q (length zeros)
    long Q q = subst Q (sym (length-replicate n 0)) q

    go : (d : ℕ) → get_or (distances_of n ss) r 0 ≡ d → Said (distances_of n ss) ss r
    go zero e = inl (rw e refl, (distances-zero zeros ss (long (λ (m : ℕ). Placed m ss) p) r e).1)
    go (suc d) e = inr (
      suc d,
      rw e refl,
      subst (λ (x : ℕ). Among ss r x) e (distances-all (Among ss) zeros ss (λ k h. absurd (h (get_or-zeroes n k)))
          (all_map (λ (s : Slot). ((s.reg < n) × (0 < s.below)) × Among ss s.reg s.below) (λ (s : Slot). (s.reg < length zeros) × Among ss s.reg s.below)
          (λ s i. (long (λ (m : ℕ). s.reg < m) i.0.0, i.1)) ss (all_both (λ (s : Slot). (s.reg < n) × (0 < s.below)) (λ (s : Slot). Among ss s.reg s.below) ss p (among-all ss)))
          r (λ z. omega (arith, z, e))),
    )

fields-placed : (top : ℕ) (fs : List ℕ) → Fields 8 5 top fs → Placed 6 (field_slots 8 top fs)
fields-placed top [] g = tt
fields-placed top (zero ∷ fs) g = fields-placed (top - 8) fs g
fields-placed top (suc f ∷ fs) g = ((omega (arith, g.0), omega (arith, g.1)), fields-placed (top - 8) fs g.2)

pushed-placed : (xs : List ℕ) → Named 6 xs → Placed 6 (pushed 8 xs)
pushed-placed [] g = tt
pushed-placed (x ∷ xs) g = ((omega (arith, g.0, g.1), omega arith), pushed-placed xs g.2)

placed-x86-64 : (w : ℕ) (s : x86.Sound w) → Placed 6 (x86.frame_of w s).saved
placed-x86-64 w (x86.frame_based k s) = ((omega arith, omega arith), fields-placed _ (x86.fields_of w) (frames-x86.based-fields w s))
placed-x86-64 w (x86.frameless xs k l r) = pushed-placed xs (list-named w xs l)

pub slots-x86-64 : (w : ℕ) (s : x86.Sound w) (r : ℕ) → Said (rules-x86.rule_of w).below (x86.frame_of w s).saved r
slots-x86-64 w s r = rw (frames-x86.sound-rule w s) (said_of 6 (x86.frame_of w s).saved (placed-x86-64 w s) r)

down-placed : (d b : ℕ) (xs : List ℕ) → 0 < d → Rising 20 b xs → Placed 20 (down 8 d xs)
down-placed d b [] h g = tt
down-placed d b (x ∷ xs) h g = ((g.1, h), down-placed (d + 8) (suc x) xs (omega arith) g.2)

placed-arm64 : (w : ℕ) (s : arm64.Sound w) → Placed 20 (arm64.frame_of w s).saved
placed-arm64 w (arm64.frame_based k) = ((omega arith, omega arith), ((omega arith, omega arith), down-placed 24 0 (arm64.listed w) (omega arith) (frames-arm64.listed-rises w)))
placed-arm64 w (arm64.frameless k) = tt

pub slots-arm64 : (w : ℕ) (s : arm64.Sound w) (r : ℕ) → Said (rules-arm64.rule_of w).below (arm64.frame_of w s).saved r
slots-arm64 w s r = rw (frames-arm64.sound-rule w s) (said_of 20 (arm64.frame_of w s).saved (placed-arm64 w s) r)
