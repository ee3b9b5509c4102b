-- docs/FORMAT.md, 11: checks one after the other, and the numbers of the refusals.
-- Assumes nothing.
use Rattle.std.specs.Prelude.{ℕ, Bool, true, false, Result, Ok, Err}
use Rattle.raw.specs.declared.Error.{Error}

-- what was asked for, or the number of the first check that refuses it
pub data Checked (A : Type 0) : Type 0 where
  good : A → Checked A
  refused : ℕ → Checked A

abbrev pub ◌>>=◌ : {A B : Type 0} → Checked A → (A → Checked B) → Checked B
◌>>=◌ (good x) f = f x
◌>>=◌ (refused k) f = refused k

abbrev pub ◌>>◌ : {A B : Type 0} → Checked A → Checked B → Checked B
◌>>◌ (good x) y = y
◌>>◌ (refused k) y = refused k

-- one thing where it was refused, another where it is there
abbrev pub either : {A B : Type 0} → (ℕ → B) → (A → B) → Checked A → B
either otherwise f (good x) = f x
either otherwise f (refused k) = otherwise k

-- the check with number k
abbrev pub check : ℕ → Bool → Checked (Unit {0})
check k true = good tt
check k false = refused k

-- the number of each refusal
abbrev pub number_of : Error → ℕ
number_of Error.Header = 1
number_of Error.GlobalOpcodes = 2
number_of Error.Pages = 3
number_of Error.PageKind = 4
number_of Error.UnexpectedSentinelPage = 5
number_of Error.InvalidPageKind = 6
number_of Error.RegularPage = 7
number_of Error.RegularPageFunctions = 8
number_of Error.CompressedPage = 9
number_of Error.CompressedPageFunctions = 10
number_of Error.LocalOpcodes = 11
number_of Error.InvalidPageEntryFirstAddress = 12
number_of Error.AddressTooLarge = 13
number_of Error.LocalIndex = 14
number_of Error.WrongVersion = 15

-- what an answer tells: what was asked for, or the refusal's number
abbrev pub told : {A : Type 0} → Result A Error → Checked A
told (Ok x) = good x
told (Err e) = refused (number_of e)
