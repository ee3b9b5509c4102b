-- P1 to P12 of docs/FORMAT.md, 13.1: one table of what is asked and what is answered, and one claim, by computation.
-- Assumes nothing.
use Prim.Native.Nat.{ℕ}
use mathlib.Core.Path.{◌≡◌, refl}
use mathlib.Core.List.{List, [], ◌∷◌, map}
use lib.ListN.{replicate}
use Rattle.reader.specs.Reader.{number_at, granted_of, read_of, word_at, part_of}
use Rattle.search.specs.Search.{count_of, key_of, mid, more, rounds, run, search_of}
use Rattle.raw.specs.Raw as raw
use Rattle.raw.specs.Raw.{grant_of, header_of, globals_of, pages_of, first_in, offset_in, regular_of, compressed_of, by_kind, page_of, locals_granted}
use Rattle.entries.specs.Entries.{functions_of, locals_of, four_of, is_global, opcode_part, start_in, end_in, resolve_of, opcode_in, palette_of, origin_in, function_in, function_of}
use Rattle.entries.specs.Section.{first_of, offset_of, page_at, function_at}
use Rattle.lookup.specs.Lookup.{Looked, found, nothing, from_spot, from_page, at_page, from_pages, lookup_of, lookup_on}
use Rattle.well_formed.proofs.Examples.{S, first, second}
use Rattle.permutation.specs.Permutation as permuted
use Rattle.permutation.specs.Permutation.{accepted, decode_of}
use Rattle.opcodes.specs.WordsX86.{parse_of}
use Rattle.rules.specs.Answers.{numbered}
use Rattle.rules.specs.RulesX86.{rule_of}
use Rattle.step.specs.Steps.{Told, regs_of}
use Rattle.step.specs.StepsX86.{step_of}

-- 24 bytes that all differ, from 0x7000 to 0x7018
abbrev pub window : List ℕ
window =
    0x01 ∷ 0x02 ∷ 0x03 ∷ 0x04 ∷ 0x05 ∷ 0x06 ∷ 0x07 ∷ 0x08
    ∷ 0x09 ∷ 0x0A ∷ 0x0B ∷ 0x0C ∷ 0x0D ∷ 0x0E ∷ 0x0F ∷ 0x10
    ∷ 0x11 ∷ 0x12 ∷ 0x13 ∷ 0x14 ∷ 0x15 ∷ 0x16 ∷ 0x17 ∷ 0x18 ∷ []

pub data Asked : Type 0 where
  lookup : (address : ℕ) → Asked
  permutation : (count encoding : ℕ) → Asked
  registers : (word : ℕ) → Asked
  step : (word rbp : ℕ) → Asked

pub data Answered : Type 0 where
  looked : Looked → Answered
  decoded : permuted.Told → Answered
  listed : List ℕ → Answered
  stepped : Told → Answered

-- what the contracts' definitions answer: in S, and by a step of x86_64 in the window
abbrev pub answer : Asked → Answered
answer (lookup address) = looked (lookup_on S address)
answer (permutation count encoding) = decoded (decode_of count encoding)
answer (registers word) = listed (parse_of word).saved
answer (step word rbp) = stepped (step_of word 0x7000 window (regs_of 0x1010 0x6ff0 (1 ∷ 2 ∷ 3 ∷ 4 ∷ 5 ∷ rbp ∷ [])))

pub record Row : Type 0 where
  pub asked : Asked
  pub answered : Answered

infixl 20 ◌⇒◌
abbrev pub ◌⇒◌ : Asked → Answered → Row
◌⇒◌ q a = record { asked = q; answered = a }

-- a lookup also tells its probes, a refused permutation 23 and zeros; rbx is register 1, r12 register 2
abbrev pub rows : List Row
rows =
    (lookup 0x0fff ⇒ looked (nothing 2))
    ∷ (lookup 0x1000 ⇒ looked (found first 4))
    ∷ (lookup 0x103f ⇒ looked (found first 4))
    ∷ (lookup 0x1040 ⇒ looked (found second 3))
    ∷ (lookup 0x1100 ⇒ looked (nothing 1))
    ∷ (permutation 6 719 ⇒ decoded (accepted (6 ∷ 5 ∷ 4 ∷ 3 ∷ 2 ∷ 1 ∷ [])))
    ∷ (permutation 6 720 ⇒ decoded (permuted.Told.refused 23 (replicate 6 0)))
    ∷ (permutation 5 719 ⇒ decoded (accepted (6 ∷ 5 ∷ 4 ∷ 3 ∷ 2 ∷ 0 ∷ [])))
    ∷ (permutation 0 1023 ⇒ decoded (accepted (replicate 6 0)))
    ∷ (permutation 7 0 ⇒ decoded (permuted.Told.refused 23 (replicate 6 0)))
    ∷ (registers 0x02030800 ⇒ listed (1 ∷ 2 ∷ 0 ∷ 0 ∷ 0 ∷ 0 ∷ []))
    ∷ (step 0x01010001 0x7008
    ⇒ stepped (record { refusal = numbered 0 0; regs = regs_of 0x1817161514131211 0x7018 (0x0807060504030201 ∷ 2 ∷ 3 ∷ 4 ∷ 5 ∷ 0x100F0E0D0C0B0A09 ∷ []) }))
    ∷ []

pub P1-to-P12 : map (λ (r : Row). answer r.asked) rows ≡ map (λ (r : Row). r.answered) rows
unfolding number_at granted_of read_of word_at part_of count_of key_of mid more rounds run search_of grant_of header_of raw.parse_of globals_of pages_of first_in offset_in regular_of compressed_of by_kind page_of locals_granted functions_of locals_of four_of is_global opcode_part start_in end_in resolve_of opcode_in palette_of origin_in function_in function_of first_of offset_of page_at function_at from_spot from_page at_page from_pages lookup_of lookup_on permuted.rows permuted.bounds decode_of parse_of rule_of step_of
P1-to-P12 = refl
