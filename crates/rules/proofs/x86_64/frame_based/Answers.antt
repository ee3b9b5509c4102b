-- `rules::x86_64::frame_based` meets its contract: each turn places one more field, or refuses.
-- Assumes nothing.
use Prim.Native.Nat.{◌<◌}
use mathlib.Core.Path.{◌≡◌, sym, ◌∙◌}
use native.Mathlib.Omega.{arith}
use native.Mathlib.Numerals.{add-one}
use lib.ListN.{length, get_or}
use Rattle.opcodes.specs.Registers.{fields_in, number_at}
use Rattle.opcodes.proofs.Fields.{unknown-above}
use Rattle.rules.proofs.FieldsX86.{first, loop-is}
use Rattle.rules.proofs.Fielding.{field, numbered-from-1, skip, places, far, shallow, twice, end}
use Rattle.rules.proofs.x86_64.frame_based.Goals as goal
use Rattle.rules.proofs.x86_64.frame_based.Goals.{then-f-gt5-via-then-f-gt5, then-f-gt5-via-else-f-gt5+then-offset-high, then-f-gt5-via-else-f-gt5+else-offset-high+then-below-f-ne0}

pub loop-k-preserved-in-Absent : goal.loop-k-preserved-in-Absent
loop-k-preserved-in-Absent c =
    rw add-one (skip c.args.offset first (fields_in c.args.fields) _ _ c.loop-k.invariant c.loop-k-test.true (field _ _ _ c.loop-k-test.true c.in-Absent.ensures))

pub returns-in-Unknown : goal.returns-in-Unknown
returns-in-Unknown c =
    let e : get_or (fields_in c.args.fields) c.loop-k.k 0 ≡ c.in-Unknown.field-0 = field _ _ _ c.loop-k-test.true c.in-Unknown.ensures in
    let u : 6 < c.in-Unknown.field-0 = unknown-above (number_at c.args.fields c.loop-k.k) _ (sym c.in-Unknown.ensures) in
    far c.args.offset first (fields_in c.args.fields) _ _ c.loop-k.invariant c.loop-k-test.true (λ z. omega arith) (omega arith)
    ∙ loop-is c.args.offset (fields_in c.args.fields)

pub returns-then-f-gt5 : goal.returns-then-f-gt5
returns-then-f-gt5 c =
    let o = c.args.offset in
    let fs = fields_in c.args.fields in
    let t = c.loop-k.invariant in
    let h = c.loop-k-test.true in
    let e : get_or fs c.loop-k.k 0 ≡ c.from-f.result = field _ _ _ h c.in-Register.ensures ∙ sym (c.from-f.ensures ∙ c.number.ensures) in
    let n : 0 < c.from-f.result = omega (arith, numbered-from-1 c.in-Register.name, c.number.ensures, c.from-f.ensures) in
    elim c.then-f-gt5.branch [
      | then-f-gt5-via-then-f-gt5 w ↦ far o first fs _ _ t h (λ z. omega arith) (omega arith)
      | then-f-gt5-via-else-f-gt5+then-offset-high w ↦ shallow o first fs _ _ t h (λ z. omega arith) (omega arith) (omega arith)
      | then-f-gt5-via-else-f-gt5+else-offset-high+then-below-f-ne0 w ↦ twice o first fs _ _ t h (λ z. omega arith) (omega arith) (omega arith) (rw e w.if-below-f-ne0.true)
    ]
    ∙ loop-is o fs

pub loop-k-preserved : goal.loop-k-preserved
loop-k-preserved c =
    let fs = fields_in c.args.fields in
    let e : get_or fs c.loop-k.k 0 ≡ c.from-f.result = field _ _ _ c.loop-k-test.true c.in-Register.ensures ∙ sym (c.from-f.ensures ∙ c.number.ensures) in
    let n : 0 < c.from-f.result = omega (arith, numbered-from-1 c.in-Register.name, c.number.ensures, c.from-f.ensures) in
    rw (add-one, ← e)
    (places c.args.offset first fs _ _ c.loop-k.invariant c.loop-k-test.true (λ z. omega arith) (omega arith) (omega arith) (rw e c.if-below-f-ne0.false))

pub returns : goal.returns
returns c =
    let e : c.loop-k.k ≡ length (fields_in c.args.fields) = omega arith in
    end c.args.offset first (fields_in c.args.fields) c.loop-k.below (rw e at c.loop-k.invariant) ∙ loop-is c.args.offset (fields_in c.args.fields)
