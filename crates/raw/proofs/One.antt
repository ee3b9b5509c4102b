-- Two answers that conform to a contract are one: a refusal's number gives the refusal back.
-- Assumes nothing.
use Prim.Native.Nat.{ℕ}
use mathlib.Core.Path.{◌≡◌, refl, ap, sym, ◌∙◌}
use mathlib.Core.Bool.{cond}
use mathlib.Mathlib.Logic.Function.Defs.{LeftInverse, LeftInverse-Injective}
use lib.Dec.{eqb}
use Rattle.raw.specs.declared.Error.{Error}
use Rattle.std.specs.Prelude.{Result, Ok, Err}
use denote.Slice.{shr_slice_vals}
use Rattle.reader.specs.Reader.{slice_told}
use Rattle.reader.proofs.One.{one-slice}
use Rattle.raw.specs.declared.section.Section.{Section}
use Rattle.raw.specs.Section.{Standing, section_told}
use Rattle.raw.specs.Checked.{Checked, good, refused, number_of, told}

abbrev pub error_of : ℕ → Error
error_of k =
    cond (eqb k 1) Error.Header
    (cond (eqb k 2) Error.GlobalOpcodes
    (cond (eqb k 3) Error.Pages
    (cond (eqb k 4) Error.PageKind
    (cond (eqb k 5) Error.UnexpectedSentinelPage
    (cond (eqb k 6) Error.InvalidPageKind
    (cond (eqb k 7) Error.RegularPage
    (cond (eqb k 8) Error.RegularPageFunctions
    (cond (eqb k 9) Error.CompressedPage
    (cond (eqb k 10) Error.CompressedPageFunctions
    (cond (eqb k 11) Error.LocalOpcodes
    (cond (eqb k 12) Error.InvalidPageEntryFirstAddress
    (cond (eqb k 13) Error.AddressTooLarge
    (cond (eqb k 14) Error.LocalIndex Error.WrongVersion)))))))))))))

pub error-back : LeftInverse error_of number_of
error-back Error.Header = refl
error-back Error.GlobalOpcodes = refl
error-back Error.Pages = refl
error-back Error.PageKind = refl
error-back Error.UnexpectedSentinelPage = refl
error-back Error.InvalidPageKind = refl
error-back Error.RegularPage = refl
error-back Error.RegularPageFunctions = refl
error-back Error.CompressedPage = refl
error-back Error.CompressedPageFunctions = refl
error-back Error.LocalOpcodes = refl
error-back Error.InvalidPageEntryFirstAddress = refl
error-back Error.AddressTooLarge = refl
error-back Error.LocalIndex = refl
error-back Error.WrongVersion = refl

abbrev pub answer_of : {A : Type 0} → Checked A → Result A Error
answer_of (good x) = Ok x
answer_of (refused k) = Err (error_of k)

answer-back : {A : Type 0} → LeftInverse (answer_of {A = A}) told
answer-back (Ok x) = refl
answer-back (Err e) = ap Err (error-back e)

pub one_told : {A : Type 0} (t : Checked A) (x y : Result A Error) → told x ≡ t → told y ≡ t → x ≡ y
one_told t x y p q = LeftInverse-Injective answer_of told answer-back x y (p ∙ sym q)

-- what is told alike was there or refused alike
module _ {A : Type 0} where
  abbrev there : A → Checked A → A
  there d (good x) = x
  there d (refused k) = d

  abbrev number : Checked A → ℕ
  number (good x) = 0
  number (refused k) = k

  pub one-good : (x y : A) → good x ≡ good y → x ≡ y
  one-good x y e = ap (there x) e

  pub one-error : (d e : Error) → ◌≡◌ {A = Checked A} (refused (number_of d)) (refused (number_of e)) → d ≡ e
  one-error d e q = LeftInverse-Injective error_of number_of error-back d e (ap number q)

-- two sections that were told alike: the same slice in the machine, the same bytes and the same lists; and two refusals
module _ (t : Checked Standing) where
  pub one-section : (x y : Section) → section_told (Ok x) ≡ t → section_told (Ok y) ≡ t → (shr_slice_vals x.bytes ≡ shr_slice_vals y.bytes) × (x.bytes.now ≡ y.bytes.now) × (x.lists ≡ y.lists)
  one-section x y p q =
      let told : Section → Standing = λ (z : Section). record { bytes = slice_told z.bytes; lists = z.lists } in
      let same : told x ≡ told y = one-good (told x) (told y) (p ∙ sym q) in
      let bytes = one-slice (told y).bytes x.bytes y.bytes (ap (λ (m : Standing). m.bytes) same) refl in
      (bytes.0, bytes.1, ap (λ (m : Standing). m.lists) same)

  pub one-refused : (d e : Error) → section_told (Err d) ≡ t → section_told (Err e) ≡ t → d ≡ e
  one-refused d e p q = one-error d e (p ∙ sym q)
