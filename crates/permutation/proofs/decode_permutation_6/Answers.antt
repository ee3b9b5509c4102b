-- `permutation::decode_permutation_6` meets its contract: the registers of an encoding are the first places of its row.
-- Assumes nothing.
use Prim.Native.Nat.{ℕ, ◌-◌, ◌*◌, ◌<◌, ◌≤◌}
use mathlib.Core.Path.{◌≡◌, ap, sym, ◌∙◌, subst}
use mathlib.Core.List.{List, ◌++◌}
use native.Mathlib.Omega.{arith}
use native.Mathlib.Nat.{mul-le-mul, div-le_self}
use lib.Bits.{bit_and}
use lib.ListN.{get_or, take, replicate}
use borrow.Author.Tests.{lt-ltb, le-ltb}
use Rattle.permutation.specs.Permutation.{bounds, Told, accepted, registers_of, decode_of}
use Rattle.permutation.specs.Table.{places_of, apart_of, kept_of}
use Rattle.permutation.proofs.Laws.{below-accepted, accepts-no-count, decode-accepts, decode-refuses}
use Rattle.permutation.proofs.Octal.{kept-places}
use Rattle.permutation.proofs.Beginnings.{by_row, accepts-by-row}
use Rattle.permutation.proofs.decode_permutation_6.Goals as goal

-- by the numbers of a count
module _ (n e s : ℕ) (h : n ≤ 6) (es : s ≡ apart_of n) where
  product : e < 4294967296 → e * s ≤ 4294967296 * 720
  product l = mul-le-mul {n₂ = 4294967296} {m₂ = 720} (omega arith) (omega (arith, es, div-le_self 720 (get_or bounds n 0)))

  past : 720 ≤ e * s → Told.refused 23 (replicate 6 0) ≡ decode_of n e
  past l = sym (decode-refuses n e (accepts-by-row n e h ∙ le-ltb (e * apart_of n) 720 (subst (λ (k : ℕ). 720 ≤ e * k) es l)))

  says : e * s < 720 → (m x : ℕ) → m ≡ kept_of n → places_of 6 x ≡ registers_of 6 (e * s) → accepted (places_of 6 (bit_and x m)) ≡ decode_of n e
  says l m x em t =
      ap (λ (k : ℕ). accepted (places_of 6 (bit_and x k))) em
      ∙ ap accepted
      (kept-places n x h
      ∙ ap (λ (xs : List ℕ). take n xs ++ replicate (6 - n) 0) (t ∙ ap (λ (k : ℕ). registers_of 6 (e * k)) es)
      ∙ sym (by_row n e h))
      ∙ sym (decode-accepts n e (below-accepted n e (accepts-by-row n e h ∙ lt-ltb (e * apart_of n) 720 (subst (λ (k : ℕ). e * k < 720) es l))))

pub returns-then-count-gt6 : goal.returns-then-count-gt6
returns-then-count-gt6 c = sym (decode-refuses _ _ (accepts-no-count _ _ c.if-count-gt6.true))

pub overflow_mul-at : goal.overflow_mul-at
overflow_mul-at c =
    let a = c.args in
    record { fits = omega (arith, product a.count a.encoding c.apart.result (omega arith) c.apart.ensures (omega arith)) }

pub returns-then-at-ge720 : goal.returns-then-at-ge720
returns-then-at-ge720 c =
    let a = c.args in
    past a.count a.encoding c.apart.result (omega arith) c.apart.ensures (omega arith)

pub returns : goal.returns
returns c =
    let a = c.args in
    ap accepted c.places.ensures
    ∙ says a.count a.encoding c.apart.result (omega arith) c.apart.ensures (omega arith) c.kept.result c.row.result c.kept.ensures c.row.ensures
