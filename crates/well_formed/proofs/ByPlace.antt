-- Functions of S and T by their pages' places, and by places that are made up (docs/FORMAT.md, 2.7), by computation. A list that isn't there or has no
-- such index is 8 in a regular page and 10 in a compressed one, before 13, 11 and 14.
-- Assumes nothing.
use Prim.Native.Nat.{ℕ}
use mathlib.Core.Path.{◌≡◌, refl}
use mathlib.Core.List.{List, [], ◌∷◌, map}
use Rattle.reader.specs.Reader.{number_at, granted_of, read_of, word_at, part_of, slice, further}
use Rattle.search.specs.Search.{key_of}
use Rattle.raw.specs.declared.Kind.{Kind}
use Rattle.raw.specs.Checked.{Checked, good, refused}
use Rattle.entries.specs.declared.Origin.{Origin}
use Rattle.entries.specs.declared.Function.{Function}
use Rattle.entries.specs.declared.Place.{Place}
use Rattle.entries.specs.Entries.{four_of, is_global, opcode_part, start_in, end_in, resolve_of, opcode_in, palette_of, origin_in, function_in}
use Rattle.entries.specs.Placed.{list_there, entry_there, list_at, list_in, locals_there, locals_at, read_of as read_placed}
use Rattle.well_formed.proofs.Questions.{Asked, ◌⇒◌}
use Rattle.well_formed.proofs.Examples.{S, T, from, first, second}

-- page p at an offset, with its functions' offset and number and its local opcodes'; the next page starts at 0x1100
abbrev pub regular : (p offset functions n : ℕ) → Place
regular p o f n =
    record {
      index = p;
      offset = o;
      next = 0x1100;
      page = record { kind = Kind.Regular; base = 0; functions_offset = f; functions_len = n; local_opcodes_offset = 0; local_opcodes_len = 0 };
    }

abbrev pub compressed : (p offset base functions n locals m : ℕ) → Place
compressed p o b f n l m =
    record {
      index = p;
      offset = o;
      next = 0x1100;
      page = record { kind = Kind.Compressed; base = b; functions_offset = f; functions_len = n; local_opcodes_offset = l; local_opcodes_len = m };
    }

pub record At : Type 0 where
  pub place : Place
  pub index : ℕ

abbrev pub at : Place → ℕ → At
at q i = record { place = q; index = i }

-- S's page has its functions at 56 + 12 and its local opcode at 56 + 20, and S has 80 bytes
abbrev pub of-S : List (Asked At (Checked Function))
of-S =
    (at (compressed 0 56 0x1000 12 2 20 1) 0 ⇒ good first)
    ∷ (at (compressed 0 56 0x1000 12 2 20 1) 1 ⇒ good second)
    ∷ (at (compressed 0 56 0x1000 12 2 20 1) 2 ⇒ refused 10)
    ∷ (at (compressed 0 56 0x1000 12 0 20 1) 0 ⇒ refused 10)
    ∷ (at (compressed 7 56 0x1000 12 3 20 1) 1 ⇒ good (from 7 1 Origin.Local 0x1040 0x31800 0x02030800))
    ∷ (at (compressed 0 56 0x1000 12 3 20 1) 2 ⇒ refused 14)
    ∷ (at (compressed 0 56 0x1000 12 4 20 1) 0 ⇒ refused 10)
    ∷ (at (compressed 0 0xffffffff 0xffffffff 0xffffffff 2 20 1) 0 ⇒ refused 10)
    ∷ (at (compressed 0 56 0xffffffff 12 2 21 1) 0 ⇒ refused 13)
    ∷ (at (compressed 0 56 0x1000 12 2 21 1) 0 ⇒ good first)
    ∷ (at (compressed 0 56 0x1000 12 2 21 1) 1 ⇒ refused 11)
    ∷ (at (regular 9 56 12 1) 0 ⇒ good (from 9 0 Origin.Regular 0 0x1100 0x01000040))
    ∷ (at (regular 0 56 12 1) 1 ⇒ refused 8)
    ∷ (at (regular 0 56 12 2) 0 ⇒ refused 8)
    ∷ []

-- T's regular page has its functions at 88 + 12, and T has 156 bytes
abbrev pub of_T : List (Asked At (Checked Function))
of_T =
    (at (regular 0 88 12 2) 0 ⇒ good (from 0 0 Origin.Regular 0x1000 0x1080 0x04000001))
    ∷ (at (regular 0 88 12 2) 1 ⇒ good (from 0 1 Origin.Regular 0x1080 0x1100 0x02001000))
    ∷ (at (regular 0 88 12 2) 2 ⇒ refused 8)
    ∷ (at (regular 0 88 12 7) 0 ⇒ good (from 0 0 Origin.Regular 0x1000 0x1080 0x04000001))
    ∷ (at (regular 0 88 12 8) 0 ⇒ refused 8)
    ∷ []

-- the same questions, with the answers that the definition gives
unfoldable pub asked : (s globals : List ℕ) → List (Asked At (Checked Function)) → List (Asked At (Checked Function))
unfolding number_at granted_of read_of word_at part_of key_of four_of is_global opcode_part start_in end_in resolve_of opcode_in palette_of origin_in function_in list_there entry_there list_at locals_there locals_at read_placed
asked s globals rows = map (λ (r : Asked At (Checked Function)). r.question ⇒ read_placed s globals r.question.place r.question.index) rows

pub by-places-of-S : asked S (1 ∷ 0 ∷ 1 ∷ 1 ∷ []) of-S ≡ of-S
unfolding asked
by-places-of-S = refl

pub by-places-of-T : asked T (1 ∷ 0 ∷ 1 ∷ 1 ∷ 0 ∷ 8 ∷ 2 ∷ 2 ∷ []) of_T ≡ of_T
unfolding asked
by-places-of-T = refl

-- the lists of functions, where they lie in S; an empty one at S's start where they don't
pub lists-of-S : (p : ℕ × ℕ)
    → map (list_in (slice p S)) (compressed 0 56 0x1000 12 2 20 1 ∷ compressed 0 56 0x1000 12 4 20 1 ∷ regular 0 56 12 1 ∷ regular 0 56 12 2 ∷ [])
    ≡ slice (further p 68) (0 ∷ 0 ∷ 0 ∷ 0 ∷ 64 ∷ 0 ∷ 0 ∷ 1 ∷ []) ∷ slice p [] ∷ slice (further p 68) (0 ∷ 0 ∷ 0 ∷ 0 ∷ 64 ∷ 0 ∷ 0 ∷ 1 ∷ []) ∷ slice p [] ∷ []
unfolding granted_of part_of list_there
lists-of-S p = refl
