-- docs/FORMAT.md, 9.1 to 9.4: sound words of x86_64, their frames and their prologues, from the bits of the word. Nothing here knows how a word
-- is decoded.
-- Assumes nothing.
use Rattle.std.specs.Prelude.{ℕ, zero, suc, ◌+◌, ◌*◌, ◌<◌, ◌≤◌, ◌≡◌, ◌⊎◌, List, [], ◌∷◌, true, length}
use Rattle.opcodes.specs.Bits.{bits, kind_of}
use Rattle.permutation.specs.Permutation.{weights, weighted, named, ranks, member, every, distinct}
use Rattle.frame.specs.Frame.{Frame, lowest}
use Rattle.frame.specs.Calls.{Machine}
use Rattle.frame.specs.Pushes as pushes
use Rattle.frame.specs.Fields as fields
use Rattle.rules.specs.Answers.{Number, numbered}

-- bits 16 to 23 times 8: the offset of a frame-based word, the size of a frameless one
abbrev pub size_of : ℕ → ℕ
size_of w = 8 * bits 16 8 w

-- five 3-bit fields, field k at bits 3k to 3k + 2
abbrev pub field_of : ℕ → ℕ → ℕ
field_of k w = bits (3 * k) 3 w

-- n of them, from field k on
abbrev pub fields_from : ℕ → ℕ → ℕ → List ℕ
fields_from zero k w = []
fields_from (suc n) k w = field_of k w ∷ fields_from n (suc k) w

abbrev pub fields_of : ℕ → List ℕ
fields_of w = fields_from 5 0 w

-- 9.2. Sound: fields 0 to 5, none but 0 twice, field k not 0 only if 8k < offset.
pub record FrameBased (w : ℕ) : Type 0 where
  pub named : (k : ℕ) → k < 5 → field_of k w ≤ 5
  pub once : (j k : ℕ) → j < k → k < 5 → field_of j w ≡ field_of k w → field_of k w ≡ 0
  pub inside : (k : ℕ) → k < 5 → (field_of k w ≡ 0 → ⊥) → 8 * k < size_of w

-- bits 10 to 12
abbrev pub count_of : ℕ → ℕ
count_of w = bits 10 3 w

-- 9.3. The permutation is accepted and lists xs: as many distinct registers from 1 to 6 as the count, at most 6, whose digits' weighted sum is bits
-- 0 to 9. With count 0 those bits may be any.
pub record Listed (w : ℕ) (xs : List ℕ) : Type 0 where
  pub few : count_of w ≤ 6
  pub many : length xs ≡ count_of w
  pub registers : every (λ (x : ℕ). member x named) xs ≡ true
  pub once : distinct xs ≡ true
  pub spelled : 0 < count_of w → weighted (weights (count_of w)) (ranks named xs) ≡ bits 0 10 w

pub data Sound (w : ℕ) : Type 0 where
  frame_based : kind_of w ≡ 1 → FrameBased w → Sound w
  frameless : (xs : List ℕ) → kind_of w ≡ 2 → Listed w xs → 8 + 8 * count_of w ≤ size_of w → Sound w

-- 10.1. The others, with the number that refuses them and what it carries.
pub data Refused (w : ℕ) : Number → Type 0 where
  null : kind_of w ≡ 0 → Refused w (numbered 20 0)
  dwarf : kind_of w ≡ 4 → Refused w (numbered 21 (bits 0 24 w))
  unrecognised : 4 < kind_of w → Refused w (numbered 22 (kind_of w))
  permutation : (kind_of w ≡ 2) ⊎ (kind_of w ≡ 3) → ((xs : List ℕ) → Listed w xs → ⊥) → Refused w (numbered 23 0)
  unsound : kind_of w ≡ 1 → (FrameBased w → ⊥) → Refused w (numbered 24 0)
  small : (xs : List ℕ) → kind_of w ≡ 2 → Listed w xs → size_of w < 8 + 8 * count_of w → Refused w (numbered 24 0)
  indirect : (xs : List ℕ) → kind_of w ≡ 3 → Listed w xs → Refused w (numbered 25 0)

abbrev pub frame_of : (w : ℕ) → Sound w → Frame
frame_of w (frame_based k s) = fields.frame_based 8 5 (size_of w) (fields_of w)
frame_of w (frameless xs k l r) = pushes.frameless 8 (size_of w) xs

-- At entry rsp is CFA - 8, with the return address there.
abbrev pub prologue : (w : ℕ) → Sound w → ℕ → Machine → Machine
prologue w (frame_based k s) base mc = fields.prologue 8 base 5 (size_of w) (fields_of w) mc
prologue w (frameless xs k l r) base mc = pushes.prologue 8 base (size_of w) xs mc

-- How far below CFA the whole frame goes: to the lowest slot, or frameless to the lowered stack pointer.
abbrev pub extent : (w : ℕ) → Sound w → ℕ
extent w (frame_based k s) = lowest (frame_of w (frame_based k s)).saved
extent w (frameless xs k l r) = size_of w
