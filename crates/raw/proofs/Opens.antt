-- Opening a page, case by case, on plain values; and what an opened page grants.
-- Assumes nothing.
use Prim.Native.Nat.{ℕ, ◌+◌, ◌-◌, ◌*◌, ◌≤◌, ◌<◌}
use mathlib.Core.Path.{◌≡◌, refl, ap, sym, ◌∙◌}
use mathlib.Core.List.{List}
use mathlib.Core.Bool.{Bool, true, false, cond}
use native.Mathlib.Omega.{arith}
use borrow.Author.Tests.{eq-eqb, ne_eqb}
use lib.Dec.{eqb}
use lib.ListN.{length, take, drop}
use Rattle.std.specs.Prelude.{Some, None}
use Rattle.reader.specs.Reader.{granted_of, read_of, word_at, Bytes}
use Rattle.reader.proofs.Laws.{tail, fits, was-word, was_granted, was-refused, bounded-word, bytes-tail}
use Rattle.search.specs.Search.{size_of}
use Rattle.raw.specs.declared.Page.{Page}
use Rattle.raw.specs.Checked.{Checked, good, refused, ◌>>=◌, ◌>>◌, check}
use Rattle.raw.specs.Raw.{regular_of, compressed_of, by_kind, page_of, locals_granted, open_of, layout}

module _ (s : List ℕ) (offset first : ℕ) where
  -- `&section[page_offset..]`, as the callee's contract has it
  abbrev pub lent : List ℕ
  lent = take (length s - offset) (drop offset s)

  pub no_kind : read_of 4 s offset ≡ None → refused 4 ≡ page_of s offset first
  unfolding page_of
  no_kind e = simp (was-refused 4 s offset e)

  module _ (k : ℕ) (e : read_of 4 s offset ≡ Some k) where
    pub kind-inside : offset + 4 ≤ length s
    kind-inside = fits 4 s offset (was_granted 4 s offset k e)

    by : page_of s offset first ≡ by_kind k (drop offset s) first
    unfolding page_of
    by = simp (was_granted 4 s offset k e, was-word 4 s offset k e)

    pub kind_2 : (x : Checked Page) → k ≡ 2 → x ≡ regular_of lent → x ≡ page_of s offset first
    unfolding by_kind
    kind_2 x p q = q ∙ ap regular_of (tail offset s) ∙ sym (by ∙ simp (eq-eqb k 2 p))

    pub kind_3 : (x : Checked Page) → (k ≡ 2 → ⊥) → k ≡ 3 → x ≡ compressed_of lent first → x ≡ page_of s offset first
    unfolding by_kind
    kind_3 x a p q = q ∙ ap (λ (page : List ℕ). compressed_of page first) (tail offset s) ∙ sym (by ∙ simp (ne_eqb k 2 a, eq-eqb k 3 p))

    pub kind_1 : (k ≡ 2 → ⊥) → (k ≡ 3 → ⊥) → k ≡ 1 → refused 5 ≡ page_of s offset first
    unfolding by_kind
    kind_1 a b p = sym (by ∙ simp (ne_eqb k 2 a, ne_eqb k 3 b, eq-eqb k 1 p))

    pub other-kind : (k ≡ 2 → ⊥) → (k ≡ 3 → ⊥) → (k ≡ 1 → ⊥) → refused 6 ≡ page_of s offset first
    unfolding by_kind
    other-kind a b d = sym (by ∙ simp (ne_eqb k 2 a, ne_eqb k 3 b, ne_eqb k 1 d))

  -- a page that was read starts in the section
  pub starts-inside : (pg : Page) → page_of s offset first ≡ good pg → offset + 4 ≤ length s
  unfolding page_of
  starts-inside pg e = by-test (granted_of 4 s offset) refl e
    where
      by-test : (b : Bool) → granted_of 4 s offset ≡ b → (◌>>◌ (check 4 b) (by_kind (word_at 4 s offset) (drop offset s) first)) ≡ good pg → offset + 4 ≤ length s
      by-test true q r = fits 4 s offset q
      by-test false q r = absurd (let z : ◌≡◌ {A = ℕ} 0 1 = cc in omega arith)

  -- a page that opens whole is read, and its local opcodes are there
  pub opened-reads : (pg : Page) → open_of s offset first ≡ good pg → (page_of s offset first ≡ good pg) × (locals_granted (drop offset s) pg ≡ true)
  unfolding open_of
  opened-reads pg e = by-page (page_of s offset first) refl e
    where
      by-page : (o : Checked Page) → page_of s offset first ≡ o → (◌>>=◌ o (λ x. ◌>>◌ (check 11 (locals_granted (drop offset s) x)) (good x))) ≡ good pg
          → (page_of s offset first ≡ good pg) × (locals_granted (drop offset s) pg ≡ true)
      by-page (refused k) q r = absurd (let z : ◌≡◌ {A = ℕ} 0 1 = cc in omega arith)
      by-page (good x) q r = by-test (locals_granted (drop offset s) x) refl r
        where
          by-test : (b : Bool) → locals_granted (drop offset s) x ≡ b → (◌>>◌ (check 11 b) (good x)) ≡ good pg
              → (page_of s offset first ≡ good pg) × (locals_granted (drop offset s) pg ≡ true)
          by-test true u v =
              let same : x ≡ pg = cc in
              (q ∙ ap good same, rw same at u)
          by-test false u v = absurd (let z : ◌≡◌ {A = ℕ} 0 1 = cc in omega arith)

-- the list of functions that a page was read with lies in it
abbrev pub FunctionsGranted : List ℕ → Page → Type 0
FunctionsGranted page pg = granted_of (size_of (layout pg.kind) * pg.functions_len) page pg.functions_offset ≡ true

-- two checks that were passed, and the page that they let through
passed : (page : List ℕ) (pg r : Page) (j k : ℕ) (b d : Bool) → (d ≡ true → FunctionsGranted page r) → (◌>>◌ (check j b) (◌>>◌ (check k d) (good r))) ≡ good pg → FunctionsGranted page pg
passed page pg r j k true true q e =
    let same : r ≡ pg = cc in
    rw same at (q refl)
passed page pg r j k true false q e = absurd (let z : ◌≡◌ {A = ℕ} 0 1 = cc in omega arith)
passed page pg r j k false d q e = absurd (let z : ◌≡◌ {A = ℕ} 0 1 = cc in omega arith)

regular-granted : (page : List ℕ) (pg : Page) → regular_of page ≡ good pg → FunctionsGranted page pg
unfolding regular_of
regular-granted page pg e = passed page pg _ 7 8 (granted_of 8 page 0) (granted_of (8 * word_at 2 page 6) page (word_at 2 page 4)) (λ q. q) e

compressed-granted : (page : List ℕ) (first : ℕ) (pg : Page) → compressed_of page first ≡ good pg → FunctionsGranted page pg
unfolding compressed_of
compressed-granted page first pg e = passed page pg _ 9 10 (granted_of 12 page 0) (granted_of (4 * word_at 2 page 6) page (word_at 2 page 4)) (λ q. q) e

pub functions-granted : (s : List ℕ) (offset first : ℕ) (pg : Page) → page_of s offset first ≡ good pg → FunctionsGranted (drop offset s) pg
unfolding page_of by_kind
functions-granted s offset first pg e = by_tests (granted_of 4 s offset) (eqb (word_at 4 s offset) 2) (eqb (word_at 4 s offset) 3) (eqb (word_at 4 s offset) 1) e
  where
    by_tests : (a b c d : Bool) → (◌>>◌ (check 4 a) (cond b (regular_of (drop offset s)) (cond c (compressed_of (drop offset s) first) (cond d (refused 5) (refused 6))))) ≡ good pg → FunctionsGranted (drop offset s) pg
    by_tests true true c d r = regular-granted (drop offset s) pg r
    by_tests true false true d r = compressed-granted (drop offset s) first pg r
    by_tests true false false true r = absurd (let z : ◌≡◌ {A = ℕ} 0 1 = cc in omega arith)
    by_tests true false false false r = absurd (let z : ◌≡◌ {A = ℕ} 0 1 = cc in omega arith)
    by_tests false b c d r = absurd (let z : ◌≡◌ {A = ℕ} 0 1 = cc in omega arith)

-- a page has fewer than 65,536 functions, since their count is two bytes
few-passed : (pg r : Page) (j k : ℕ) (b d : Bool) → r.functions_len < 65536 → (◌>>◌ (check j b) (◌>>◌ (check k d) (good r))) ≡ good pg → pg.functions_len < 65536
few-passed pg r j k true true h e =
    let same : r ≡ pg = cc in
    rw same at h
few-passed pg r j k true false h e = absurd (let z : ◌≡◌ {A = ℕ} 0 1 = cc in omega arith)
few-passed pg r j k false d h e = absurd (let z : ◌≡◌ {A = ℕ} 0 1 = cc in omega arith)

module _ (page : List ℕ) (bytes : Bytes page) (pg : Page) where
  few-regular : regular_of page ≡ good pg → pg.functions_len < 65536
  unfolding regular_of
  few-regular e = few-passed pg _ 7 8 (granted_of 8 page 0) (granted_of (8 * word_at 2 page 6) page (word_at 2 page 4)) (bounded-word page bytes 2 6) e

  few-compressed : (first : ℕ) → compressed_of page first ≡ good pg → pg.functions_len < 65536
  unfolding compressed_of
  few-compressed first e = few-passed pg _ 9 10 (granted_of 12 page 0) (granted_of (4 * word_at 2 page 6) page (word_at 2 page 4)) (bounded-word page bytes 2 6) e

pub few-functions : (s : List ℕ) → Bytes s → (offset first : ℕ) (pg : Page) → page_of s offset first ≡ good pg → pg.functions_len < 65536
unfolding page_of by_kind
few-functions s bytes offset first pg e = by_tests (granted_of 4 s offset) (eqb (word_at 4 s offset) 2) (eqb (word_at 4 s offset) 3) (eqb (word_at 4 s offset) 1) e
  where
    by_tests : (a b c d : Bool) → (◌>>◌ (check 4 a) (cond b (regular_of (drop offset s)) (cond c (compressed_of (drop offset s) first) (cond d (refused 5) (refused 6))))) ≡ good pg → pg.functions_len < 65536
    by_tests true true c d r = few-regular (drop offset s) (bytes-tail s offset bytes) pg r
    by_tests true false true d r = few-compressed (drop offset s) (bytes-tail s offset bytes) pg first r
    by_tests true false false true r = absurd (let z : ◌≡◌ {A = ℕ} 0 1 = cc in omega arith)
    by_tests true false false false r = absurd (let z : ◌≡◌ {A = ℕ} 0 1 = cc in omega arith)
    by_tests false b c d r = absurd (let z : ◌≡◌ {A = ℕ} 0 1 = cc in omega arith)
