-- Which numbers a refusal can have, by where it comes from: 15 from the header alone, and exactly if it is there and its version isn't 1.
-- Assumes nothing.
use Prim.Native.Nat.{ℕ, ◌*◌, ◌≤◌, ◌<◌}
use mathlib.Core.Path.{◌≡◌, refl, ap, sym, ◌∙◌}
use mathlib.Core.Bool.{Bool, true, false, cond, ◌&&◌}
use mathlib.Core.Logic.{◌↔◌}
use mathlib.Core.List.{List}
use native.Mathlib.Omega.{arith}
use borrow.Author.Tests.{eqb-false}
use lib.Dec.{eqb, ltb}
use lib.ListN.{length, drop}
use Rattle.reader.specs.Reader.{granted_of, word_at}
use Rattle.reader.proofs.Laws.{fits, grants}
use Rattle.raw.specs.declared.Error.{Error}
use Rattle.raw.specs.declared.Lists.{Lists}
use Rattle.raw.specs.declared.Page.{Page}
use Rattle.raw.specs.Checked.{Checked, good, refused, ◌>>=◌, ◌>>◌, either, check, number_of}
use Rattle.raw.specs.Raw.{grant_of, version_of, header_of, parse_of, regular_of, compressed_of, by_kind, page_of, locals_granted, open_of}
use Rattle.raw.proofs.Grants.{other-version}

-- a number of those behind the header's: 2 to 14
abbrev pub behind : ℕ → Bool
behind k = ltb 1 k && ltb k 15

-- what is refused is refused with such a number
abbrev pub Behind : {A : Type 0} → Checked A → Type 0
Behind x = either behind (λ z. true) x ≡ true

pub never-15 : {A : Type 0} (x : Checked A) → Behind x → x ≡ refused 15 → ⊥
never-15 x h e =
    let z : ◌≡◌ {A = ℕ} 1 0 = ap (λ (b : Bool). cond b 1 0) (sym h ∙ ap (either behind (λ z. true)) e) in
    omega arith

-- two checks, one after the other
pub two : {A : Type 0} (j k : ℕ) → behind j ≡ true → behind k ≡ true → (b d : Bool) (x : A) → Behind (◌>>◌ (check j b) (◌>>◌ (check k d) (good x)))
two j k h i true true x = refl
two j k h i true false x = i
two j k h i false d x = h

module _ (s : List ℕ) where
  pub of-lists : (l : Lists) → Behind (grant_of s l)
  unfolding grant_of
  of-lists l = two 2 3 refl refl (granted_of (4 * l.global_opcodes_len) s l.global_opcodes_offset) (granted_of (12 * l.pages_len) s l.pages_offset) l

  of-regular : Behind (regular_of s)
  unfolding regular_of
  of-regular = two 7 8 refl refl (granted_of 8 s 0) (granted_of (8 * word_at 2 s 6) s (word_at 2 s 4)) _

  of-compressed : (first : ℕ) → Behind (compressed_of s first)
  unfolding compressed_of
  of-compressed first = two 9 10 refl refl (granted_of 12 s 0) (granted_of (4 * word_at 2 s 6) s (word_at 2 s 4)) _

  of-kind : (kind first : ℕ) → Behind (by_kind kind s first)
  unfolding by_kind
  of-kind kind first = by (eqb kind 2) (eqb kind 3) (eqb kind 1)
    where
      by : (b d e : Bool) → Behind (cond b (regular_of s) (cond d (compressed_of s first) (cond e (refused 5) (refused 6))))
      by true d e = of-regular
      by false true e = of-compressed first
      by false false true = refl
      by false false false = refl

module _ (s : List ℕ) (offset first : ℕ) where
  pub of-page : Behind (page_of s offset first)
  unfolding page_of
  of-page = by (granted_of 4 s offset)
    where
      by : (b : Bool) → Behind (◌>>◌ (check 4 b) (by_kind (word_at 4 s offset) (drop offset s) first))
      by true = of-kind (drop offset s) (word_at 4 s offset) first
      by false = refl

  pub of-opened : Behind (open_of s offset first)
  unfolding open_of
  of-opened = by (page_of s offset first) of-page
    where
      whole : (b : Bool) (pg : Page) → Behind (◌>>◌ (check 11 b) (good pg))
      whole true pg = refl
      whole false pg = refl

      by : (x : Checked Page) → Behind x → Behind (◌>>=◌ x (λ pg. ◌>>◌ (check 11 (locals_granted (drop offset s) pg)) (good pg)))
      by (good pg) e = whole (locals_granted (drop offset s) pg) pg
      by (refused k) e = e

module _ (s : List ℕ) where
  -- 15 exactly if the header is there and its version isn't 1, whatever the lists
  pub says-15 : parse_of s ≡ refused 15 → (28 ≤ length s) × (version_of s ≡ 1 → ⊥)
  unfolding parse_of
  says-15 e = by (granted_of 28 s 0) refl (eqb (version_of s) 1) refl e
    where
      by : (b : Bool) → granted_of 28 s 0 ≡ b → (d : Bool) → eqb (version_of s) 1 ≡ d → (◌>>◌ (check 1 b) (◌>>◌ (check 15 d) (grant_of s (header_of s)))) ≡ refused 15
          → (28 ≤ length s) × (version_of s ≡ 1 → ⊥)
      by true p true q r = absurd (never-15 _ (of-lists s (header_of s)) r)
      by true p false q r = (fits 28 s 0 p, eqb-false _ _ q)
      by false p d q r = absurd (let z : ◌≡◌ {A = ℕ} 0 1 = cc in omega arith)

  pub said-15 : 28 ≤ length s → (version_of s ≡ 1 → ⊥) → parse_of s ≡ refused 15
  said-15 h v = sym (other-version s (grants 28 s 0 h) v)

  pub fifteen : (parse_of s ≡ refused 15) ↔ ((28 ≤ length s) × (version_of s ≡ 1 → ⊥))
  fifteen = (says-15, λ p. said-15 p.0 p.1)

  -- and then nothing else is told by a call that parses
  pub only-15 : {B : Type 0} (otherwise : ℕ → B) (f : Lists → B) → 28 ≤ length s → (version_of s ≡ 1 → ⊥) → either otherwise f (parse_of s) ≡ otherwise 15
  only-15 otherwise f h v = ap (either otherwise f) (said-15 h v)

-- A call on lists, which answers so where they are refused and so where they are there; `why` tells its refusal. What it refuses itself has a number of
-- those behind the header's.
module _ {B : Type 0} (otherwise : ℕ → B) (f : Lists → B) (why : B → Checked (Unit {0})) (passed_on : (k : ℕ) → why (otherwise k) ≡ refused k) (inside : (l : Lists) → Behind (why (f l))) (s : List ℕ) where
  -- on the bytes alone it says 15 exactly if the header is there and its version isn't 1
  says : (t : Checked Lists) → why (either otherwise f t) ≡ refused 15 → t ≡ refused 15
  says (good l) e = absurd (never-15 _ (inside l) e)
  says (refused k) e = ap (either refused (λ z. refused 0)) (sym (passed_on k) ∙ e)

  pub exactly-15 : (why (either otherwise f (parse_of s)) ≡ refused 15) ↔ ((28 ≤ length s) × (version_of s ≡ 1 → ⊥))
  exactly-15 = (λ e. says-15 s (says (parse_of s) e), λ p. ap why (only-15 s otherwise f p.0 p.1) ∙ passed_on 15)

  -- on lists that anyone names it never does
  pub never-15-in : (l : Lists) → why (either otherwise f (grant_of s l)) ≡ refused 15 → ⊥
  never-15-in l e = never-15 _ (of-lists s l) (says (grant_of s l) e)

-- the section's refusals have the numbers from 1 to 15
pub number-of : (e : Error) → (0 < number_of e) × (number_of e < 16)
number-of Error.Header = (omega arith, omega arith)
number-of Error.GlobalOpcodes = (omega arith, omega arith)
number-of Error.Pages = (omega arith, omega arith)
number-of Error.PageKind = (omega arith, omega arith)
number-of Error.UnexpectedSentinelPage = (omega arith, omega arith)
number-of Error.InvalidPageKind = (omega arith, omega arith)
number-of Error.RegularPage = (omega arith, omega arith)
number-of Error.RegularPageFunctions = (omega arith, omega arith)
number-of Error.CompressedPage = (omega arith, omega arith)
number-of Error.CompressedPageFunctions = (omega arith, omega arith)
number-of Error.LocalOpcodes = (omega arith, omega arith)
number-of Error.InvalidPageEntryFirstAddress = (omega arith, omega arith)
number-of Error.AddressTooLarge = (omega arith, omega arith)
number-of Error.LocalIndex = (omega arith, omega arith)
number-of Error.WrongVersion = (omega arith, omega arith)
