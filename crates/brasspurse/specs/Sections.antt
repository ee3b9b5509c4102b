-- What a section's calls tell (docs/FORMAT.md, 2.1, 4 and 5), as the flat structs of include/brasspurse.h: the case as a number, then the case's
-- values, 0 where it has none.
-- Assumes nothing.
use Rattle.std.specs.Prelude.{ℕ, List}
use Rattle.raw.specs.declared.Lists.{Lists}
use Rattle.raw.specs.Checked.{Checked, good, refused}
use Rattle.entries.specs.Entries.{origin_number}
use Rattle.iterate.specs.declared.Cursor.{Cursor}
use Rattle.iterate.specs.declared.Range.{Range}
use Rattle.iterate.specs.Iterate.{Step, answer, end}
use Rattle.lookup.specs.Lookup.{Looked, found, nothing, refusal}
use Rattle.fill.specs.declared.Filled.{Filled}
use Rattle.fill.specs.Fill as fill
use Rattle.brasspurse.specs.declared.sections.ParseAnswer.{ParseAnswer}
use Rattle.brasspurse.specs.declared.sections.RangeAnswer.{RangeAnswer}
use Rattle.brasspurse.specs.declared.sections.LookupAnswer.{LookupAnswer}
use Rattle.brasspurse.specs.declared.sections.NextAnswer.{NextAnswer}
use Rattle.brasspurse.specs.declared.sections.FillAnswer.{FillAnswer}

abbrev pub parse_answer : Checked Lists → ParseAnswer
parse_answer (good l) =
    record { refusal = 0; global_opcodes_offset = l.global_opcodes_offset; global_opcodes_len = l.global_opcodes_len; pages_offset = l.pages_offset; pages_len = l.pages_len }
parse_answer (refused k) = record { refusal = k; global_opcodes_offset = 0; global_opcodes_len = 0; pages_offset = 0; pages_len = 0 }

abbrev pub range_answer : Checked Range → RangeAnswer
range_answer (good r) = record { refusal = 0; start = r.start; end = r.end }
range_answer (refused k) = record { refusal = k; start = 0; end = 0 }

-- 0 none, 1 a function, 2 refused
abbrev pub not_found : (outcome number probes : ℕ) → LookupAnswer
not_found outcome number probes = record { start = 0; end = 0; opcode = 0; page = 0; index = 0; origin = 0; probes = probes; outcome = outcome; refusal = number }

abbrev pub lookup_answer : Looked → LookupAnswer
lookup_answer (nothing n) = not_found 0 0 n
lookup_answer (found f n) =
    record {
      start = f.start_address;
      end = f.end_address;
      opcode = f.opcode;
      page = f.page;
      index = f.index;
      origin = origin_number f.origin;
      probes = n;
      outcome = 1;
      refusal = 0;
    }
lookup_answer (refusal k n) = not_found 2 k n

-- 0 the end, 1 a function, 2 refused; page and index are the cursor for the next call
abbrev pub not_there : (outcome number : ℕ) → Cursor → NextAnswer
not_there outcome number c =
    record {
      start = 0;
      end = 0;
      opcode = 0;
      page = c.page;
      index = c.index;
      function_page = 0;
      function_index = 0;
      origin = 0;
      outcome = outcome;
      refusal = number;
    }

abbrev pub next_answer : Step → NextAnswer
next_answer (end c) = not_there 0 0 c
next_answer (answer (good f) c) =
    record {
      start = f.start_address;
      end = f.end_address;
      opcode = f.opcode;
      page = c.page;
      index = c.index;
      function_page = f.page;
      function_index = f.index;
      origin = origin_number f.origin;
      outcome = 1;
      refusal = 0;
    }
next_answer (answer (refused k) c) = not_there 2 k c

-- 0 the end, 1 the list is full, 2 refused
abbrev pub why_number : fill.Why → ℕ
why_number fill.ended = 0
why_number fill.full = 1
why_number (fill.refusal k) = 2

abbrev pub why_refusal : fill.Why → ℕ
why_refusal fill.ended = 0
why_refusal fill.full = 0
why_refusal (fill.refusal k) = k

abbrev pub flat_fill : ℕ → Cursor → fill.Why → FillAnswer
flat_fill n c w = record { functions = n; page = c.page; index = c.index; outcome = why_number w; refusal = why_refusal w }

abbrev pub flat_filled : Filled → FillAnswer
flat_filled r = flat_fill r.functions r.next (fill.why_of r.stop)

-- the answer with the list's content
pub record FillOutcome : Type 0 where
  pub flat : FillAnswer
  pub list : List ℕ

abbrev pub filled_outcome : FillAnswer → List ℕ → FillOutcome
filled_outcome r list = record { flat = r; list = list }

abbrev pub fill_answer : fill.Outcome → FillOutcome
fill_answer o = filled_outcome (flat_fill o.functions o.next o.why) o.list
