-- arm64: every word is sound or refused, the rule of a sound word is its frame, and its slots lie apart.
-- Assumes nothing.
use Prim.Native.Nat.{ℕ, zero, suc, ◌+◌, ◌*◌, ◌<◌, ◌≤◌}
use mathlib.Core.Path.{◌≡◌, refl, ap, sym, ◌∙◌}
use mathlib.Core.Logic.{◌⊎◌, inl, inr}
use mathlib.Core.Bool.{Bool, true, false, cond}
use mathlib.Core.List.{List, [], ◌∷◌, ◌++◌, append_assoc, append-nil}
use native.Mathlib.Omega.{arith}
use lib.Dec.{eqb}
use Rattle.opcodes.specs.Bits.{bits, kind_of}
use Rattle.opcodes.specs.WordsArm64 as words
use Rattle.opcodes.specs.WordsArm64.{parse_of}
use Rattle.opcodes.proofs.KindsArm64.{of-kind, of-no-kind}
use Rattle.frame.specs.Downwards as downwards
use Rattle.frame.proofs.Prologues.{Spread}
use Rattle.frame.proofs.Lowered as lowered
use Rattle.frame.proofs.Lowered.{Rising}
use Rattle.rules.specs.Answers.{Number, numbered, Ruling, ruling}
use Rattle.rules.specs.RulesArm64.{refusal, listed_from, by_word, rule_of}
use Rattle.rules.specs.SoundArm64.{pairs, listed, Sound, frame_based, frameless, Refused, null, dwarf, unrecognised, frame_of}
use Rattle.rules.proofs.SaysArm64.{rule_of_told}

-- the pairs that parsing tells are those of the word's bits
listed-is : (w : ℕ) → listed_from 0 (words.pairs w) ≡ listed w
listed-is w = simp (append_assoc, append-nil)

ruled : (w : ℕ) (t : words.Word) → parse_of w ≡ t → rule_of w ≡ by_word t
ruled w t p = sym (rule_of_told w t (sym p))

-- The rule of a sound word is its frame.
pub sound-rule : (w : ℕ) (s : Sound w) → rule_of w ≡ ruling 20 (frame_of w s)
sound-rule w (frame_based k) = ruled w _ (of-kind 4 w k) ∙ ap (λ (xs : List ℕ). ruling 20 (downwards.frame_based 8 10 11 xs)) (listed-is w)
sound-rule w (frameless k) = ruled w _ (of-kind 2 w k)

unknown : (w : ℕ) → (kind_of w ≡ 1) ⊎ (4 < kind_of w) → parse_of w ≡ words.unrecognized (kind_of w)
unknown w (inl k) = of-no-kind (kind_of w) w refl (λ z. omega arith) (λ z. omega arith) (λ z. omega arith) (λ z. omega arith)
unknown w (inr h) = of-no-kind (kind_of w) w refl (λ z. omega arith) (λ z. omega arith) (λ z. omega arith) (λ z. omega arith)

-- The rule of any other word is its refusal.
pub refused-rule : (w : ℕ) (n : Number) → Refused w n → rule_of w ≡ refusal n
refused-rule w n (null k) = ruled w _ (of-kind 0 w k)
refused-rule w n (dwarf k) = ruled w _ (of-kind 3 w k)
refused-rule w n (unrecognised h) = ruled w _ (unknown w h)

-- Every word is the one or the other,
pub sound-or-refused : (w : ℕ) → Sound w ⊎ ((n : Number) × Refused w n)
sound-or-refused w = go (kind_of w) refl
  where
    go : (k : ℕ) → kind_of w ≡ k → Sound w ⊎ ((n : Number) × Refused w n)
    go zero e = inr (numbered 20 0, null e)
    go (suc zero) e = inr (numbered 22 (kind_of w), unrecognised (inl e))
    go (suc (suc zero)) e = inl (frameless e)
    go (suc (suc (suc zero))) e = inr (numbered 21 (bits 0 24 w), dwarf e)
    go (suc (suc (suc (suc zero)))) e = inl (frame_based e)
    go (suc (suc (suc (suc (suc k))))) e = inr (numbered 22 (kind_of w), unrecognised (inr (omega arith)))

pub refused-number : (w : ℕ) (n : Number) → Refused w n → (20 ≤ n.number) × (n.number ≤ 25)
refused-number w n (null k) = (omega arith, omega arith)
refused-number w n (dwarf k) = (omega arith, omega arith)
refused-number w n (unrecognised h) = (omega arith, omega arith)

-- never both; so a word is refused exactly if it isn't sound, and with the number that docs/FORMAT.md, 10.1, gives.
pub never_both : (w : ℕ) (n : Number) → Sound w → Refused w n → ⊥
never_both w n s f =
    let z : 0 ≡ n.number = ap (λ (u : Ruling). u.refusal.number) (sym (sound-rule w s) ∙ refused-rule w n f) in
    omega (arith, z, (refused-number w n f).0)

-- The listed registers are among twenty, and their numbers rise: a pair and what follows it,
pair-rises : (a : Bool) (p b : ℕ) (xs : List ℕ) → b ≤ p → p + 2 ≤ 20 → ((c : ℕ) → c ≤ p + 2 → Rising 20 c xs) → Rising 20 b (cond a (p ∷ suc p ∷ []) [] ++ xs)
pair-rises true p b xs h l r = (h, omega arith, (omega arith, omega arith, r (suc (suc p)) (omega arith)))
pair-rises false p b xs h l r = r b (omega arith)

-- n pairs and what follows them,
pairs-rise : (w n j p b : ℕ) (xs : List ℕ) → b ≤ p → p + 2 * n ≤ 20 → ((c : ℕ) → c ≤ p + 2 * n → Rising 20 c xs) → Rising 20 b (pairs w n j p ++ xs)
pairs-rise w zero j p b xs h l r = r b (omega arith)
pairs-rise w (suc n) j p b xs h l r =
    rw append_assoc
    (pair-rises (eqb (bits j 1 w) 1) p b (pairs w n (suc j) (p + 2) ++ xs) h (omega arith)
    (λ c k. pairs-rise w n (suc j) (p + 2) c xs k (omega arith) (λ d i. r d (omega arith))))

-- all of them.
pub listed-rises : (w : ℕ) → Rising 20 0 (listed w)
listed-rises w =
    pairs-rise w 5 0 0 0 (pairs w 4 8 12) (omega arith) (omega arith)
    (λ c h. rw append-nil at (pairs-rise w 4 8 12 c [] (omega arith) (omega arith) (λ d i. tt)))

-- Slots of a sound word lie apart.
pub apart : (w : ℕ) (s : Sound w) → Spread 8 (frame_of w s).saved
apart w (frame_based k) = lowered.spread 8 8 (11 ∷ 10 ∷ listed w)
apart w (frameless k) = tt
