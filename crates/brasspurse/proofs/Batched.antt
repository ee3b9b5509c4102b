-- The six numbers of a batch's answer are the flat answer of the single lookup.
-- Assumes nothing.
use Prim.Native.Nat.{ℕ, ◌+◌, ◌*◌}
use mathlib.Core.Path.{◌≡◌, ap}
use native.Mathlib.Omega.{arith}
use Rattle.entries.specs.Entries.{origin_number}
use Rattle.lookup.specs.Lookup.{Looked, found, nothing, refusal}
use Rattle.batch.specs.Batch.{numbers, numbers_of}
use Rattle.brasspurse.specs.declared.sections.LookupAnswer.{LookupAnswer}
use Rattle.brasspurse.specs.Sections.{lookup_answer}

-- the numbers of a flat answer
abbrev told : LookupAnswer → ℕ
told a = a.origin + 256 * a.probes + 65536 * a.outcome + 16777216 * a.refusal

pub as-single : (t : Looked) → let a = lookup_answer t in numbers_of t ≡ numbers a.start a.end a.opcode a.page a.index (told a)
as-single (found f n) =
    let e : origin_number f.origin + 256 * n + 65536 ≡ origin_number f.origin + 256 * n + 65536 * 1 + 16777216 * 0 = omega arith in
    ap (numbers f.start_address f.end_address f.opcode f.page f.index) e
as-single (nothing n) =
    let e : 256 * n ≡ 0 + 256 * n + 65536 * 0 + 16777216 * 0 = omega arith in
    ap (numbers 0 0 0 0 0) e
as-single (refusal k n) =
    let e : 256 * n + 131072 + 16777216 * k ≡ 0 + 256 * n + 65536 * 2 + 16777216 * k = omega arith in
    ap (numbers 0 0 0 0 0) e
