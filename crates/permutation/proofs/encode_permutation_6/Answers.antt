-- `permutation::encode_permutation_6` meets its contract: at each turn the numbers passed were drawn, and weighed into the sum.
-- Assumes nothing.
use Prim.Native.Nat.{ℕ, ◌≤◌, ◌<◌}
use mathlib.Core.Path.{◌≡◌, ap, sym, ◌∙◌, subst}
use mathlib.Core.List.{List, []}
use mathlib.Core.Bool.{false}
use native.Mathlib.Numerals.{add-one}
use native.Mathlib.Omega.{arith}
use lib.Dec.{eqb}
use lib.ListN.{length, get_or, take, length-append, length-take}
use lib.Seq.{get_or-take, length-take-le}
use Rattle.std.proofs.lemmas.Slice.Zip.{zip_turn, zip_end}
use Rattle.permutation.specs.Permutation.{rows, weights, member, every}
use Rattle.permutation.specs.Flags.{unused}
use Rattle.permutation.proofs.Flagged.{free_of}
use Rattle.permutation.proofs.Digits.{weights-long, weight-small}
use Rattle.permutation.proofs.Encoding.{Turn, refused, next, refuses-count, refuses-drawn, refuses-rest, accepts}
use Rattle.permutation.proofs.encode_permutation_6.Goals as goal
use Rattle.permutation.proofs.encode_permutation_6.Goals.{In-Some, In-None}

-- where the turn's number and its weight stand
record Here (n : ℕ) (xs : List ℕ) (i x w : ℕ) : Type 0 where
  few : n ≤ 6
  listed : i < length (take n xs)
  weighed : i < length (weights n)
  number : x ≡ get_or (take n xs) i 0
  weight : w ≡ get_or (weights n) i 0
  small : get_or (weights n) i 0 ≤ 120

here : (c : In-Some) → Here c.args.count c.args.registers (length c.loop-x.yielded) c.in-Some.x.now c.in-Some.weight.now
unfolding rows
here c =
    let n = c.args.count in
    let few : n ≤ 6 = omega arith in
    let z = zip_turn (take n c.args.registers) (get_or rows n []) c.loop-x.yielded c.into_iter-x-iterator.result c.loop-x.x-iterator c.next.new.self c.next.result (cc) (cc) c.loop-x.yielded_by _ c.in-Some.is c.next.ensures.steps in
    let l : length (take n c.args.registers) ≡ n = length-take-le n c.args.registers (omega arith) in
    let h : length c.loop-x.yielded < n = omega (arith, z.0, l) in
    record {
      few = few;
      listed = z.0;
      weighed = omega (arith, h, weights-long n few);
      number = z.2 0;
      weight = z.3 0 ∙ sym (get_or-take n (get_or rows n []) (length c.loop-x.yielded) 0 h);
      small = weight-small n (length c.loop-x.yielded) few h;
    }

-- after the last turn
passed : (c : In-None) → length c.loop-x.yielded ≡ c.args.count
unfolding rows
passed c =
    let n = c.args.count in
    let six : n ≤ 6 = omega arith in
    let z = zip_end (take n c.args.registers) (get_or rows n []) c.loop-x.yielded c.into_iter-x-iterator.result c.loop-x.x-iterator c.next.new.self c.next.result (cc) (cc) c.loop-x.yielded_by c.in-None.is c.next.ensures.steps in
    let l : length (take n c.args.registers) ≡ n = length-take-le n c.args.registers (omega arith) in
    omega (arith, z, l, weights-long n six, length-take n (get_or rows n []))

pub returns-then-count-gt6 : goal.returns-then-count-gt6
returns-then-count-gt6 c = sym (refuses-count _ _ c.if-count-gt6.true)

pub returns-then-not-is_unused : goal.returns-then-not-is_unused
returns-then-not-is_unused c =
    let n = c.args.count in
    let h = here (goal.at.returns-then-not-is_unused c).In-Some in
    let m : member (get_or (take n c.args.registers) (length c.loop-x.yielded) 0) (unused c.loop-x.used) ≡ false =
    ap (λ (x : ℕ). member x (unused c.loop-x.used)) (sym h.number) ∙ sym c.is_unused.ensures ∙ c.if-not-is_unused.true in
    sym (refuses-drawn n c.args.registers h.few (refused _ _ c.loop-x.used c.loop-x.sum _ c.loop-x.invariant h.weighed h.listed m))

pub place-at-requires : goal.place-at-requires
place-at-requires c = (free_of c.loop-x.used _ (sym c.is_unused.ensures ∙ c.if-not-is_unused.false)).low

pub slice_bounds-used-end : goal.slice_bounds-used-end
slice_bounds-used-end c = omega (arith, c.place-at.ensures, (free_of c.loop-x.used _ (sym c.is_unused.ensures ∙ c.if-not-is_unused.false)).high)

pub slice_bounds-rank-end : goal.slice_bounds-rank-end
slice_bounds-rank-end c =
    sym (length-take-le c.place-at.result c.loop-x.used
    (omega (arith, c.place-at.ensures, (free_of c.loop-x.used _ (sym c.is_unused.ensures ∙ c.if-not-is_unused.false)).high)))

pub bounds-used-at : goal.bounds-used-at
bounds-used-at c =
    omega (arith, c.place-at.ensures, (free_of c.loop-x.used _ (sym c.is_unused.ensures ∙ c.if-not-is_unused.false)).high, c.loop-x.invariant.flags)

pub loop-x-preserved : goal.loop-x-preserved
loop-x-preserved c =
    let n = c.args.count in
    let h = here (goal.at.loop-x-preserved c).In-Some in
    let f = free_of c.loop-x.used _ (sym c.is_unused.ensures ∙ c.if-not-is_unused.false) in
    let t = next _ _ c.loop-x.used c.loop-x.sum _ c.loop-x.invariant h.weighed h.listed
    c.place-at.result c.rank.result (c.place-at.ensures ∙ h.number) (omega (arith, c.place-at.ensures, f.high, c.loop-x.invariant.flags))
    (f.flag c.place-at.result c.place-at.ensures) c.rank.ensures.0 c.rank.ensures.1 h.small in
    rw (length-append, c.from.ensures ∙ h.weight, add-one) t

pub returns-then-are_zeros : goal.returns-then-are_zeros
returns-then-are_zeros c =
    let n = c.args.count in
    let t : Turn (weights n) (take n c.args.registers) c.loop-x.used c.loop-x.sum n =
    subst (Turn (weights n) (take n c.args.registers) c.loop-x.used c.loop-x.sum) (passed (goal.at.returns-then-are_zeros c).In-None) c.loop-x.invariant in
    sym (accepts n c.args.registers c.loop-x.used c.loop-x.sum (omega arith) (omega arith) t (ap (every (eqb 0)) (sym c.split_at.ensures.back) ∙ sym c.are_zeros.ensures ∙ c.if-are_zeros.true))

pub returns-else-are_zeros : goal.returns-else-are_zeros
returns-else-are_zeros c = sym (refuses-rest c.args.count c.args.registers (omega arith) (ap (every (eqb 0)) (sym c.split_at.ensures.back) ∙ sym c.are_zeros.ensures ∙ c.if-are_zeros.false))
