-- What is read by a page's place, step by step, on plain values; and after the page was read it is the page's function.
-- Assumes nothing.
use Prim.Native.Nat.{ℕ, zero, suc, ◌+◌, ◌-◌, ◌*◌, ◌/◌, ◌%◌, ◌^◌, ◌≤◌, ◌<◌}
use mathlib.Core.Path.{◌≡◌, refl, ap, sym, subst, ◌∙◌}
use mathlib.Core.List.{List, []}
use mathlib.Core.Bool.{Bool, true, false, not, cond, ◌||◌, ◌&&◌}
use native.Mathlib.Omega.{arith}
use native.Mathlib.Decide.{dec_lt, dec_le}
use borrow.Author.Tests.{eqb-true, ltb-true, lt-ltb, le-ltb, lt-leb}
use lib.Dec.{T, eqb, ltb, leb}
use lib.ListN.{length, drop, length-drop}
use Rattle.std.specs.Prelude.{Some}
use Rattle.reader.specs.Reader.{granted_of, read_of, word_at, part_of, Slice, slice, part_in}
use Rattle.reader.proofs.Laws as reading
use Rattle.search.specs.declared.Layout.{Layout}
use Rattle.search.specs.Search.{size_of, key_of}
use Rattle.raw.specs.declared.Kind.{Kind}
use Rattle.raw.specs.declared.Page.{Page}
use Rattle.raw.specs.declared.Error.{Error}
use Rattle.raw.specs.declared.Lists.{Lists}
use Rattle.raw.specs.Raw.{layout, globals_of, page_of, locals_granted}
use Rattle.raw.proofs.Opens.{starts-inside, functions-granted}
use Rattle.raw.specs.Checked.{Checked, good, refused, number_of}
use Rattle.entries.specs.declared.Origin.{Origin}
use Rattle.entries.specs.declared.Entry.{Entry}
use Rattle.entries.specs.declared.Place.{Place}
use Rattle.entries.specs.Entries.{four_of, is_global, opcode_part, opcode_part_in, start_in, end_in, resolve_of, opcode_in, origin_in, sourced, function_in, functions_of, locals_of, function_of}
use Rattle.entries.specs.Section.{first_of, offset_of, page_at, function_at, place_at}
use Rattle.entries.specs.Placed.{first_at, size_at, list_there, entry_there, list_at, list_in, locals_there, locals_at, no_entry, read_of as read_placed, entry_in, opcode_for, spanning}
use Rattle.entries.proofs.Cases.{four-part, four-none, part-global, part-local, no-locals, no-opcode, an-opcode, end-inside, end-last}

-- sums and parts of equal numbers
pub sum_is : (m : ℕ) (r : Bool) (f z g y : ℕ) → f ≡ g → z ≡ y → r ≡ leb (f + z) m → r ≡ leb (g + y) m
sum_is m r f z g y p q e = e ∙ simp (p, q)

pub sum_inside : (m f z g y : ℕ) → f ≡ g → z ≡ y → g + y ≤ m → f + z ≤ m
sum_inside m f z g y p q h = simp (p, q) h

pub part-is : (x r : Slice) (f z g y : ℕ) → f ≡ g → z ≡ y → r ≡ part_in x f z → r ≡ part_in x g y
part-is x r f z g y p q e = e ∙ simp (p, q)

-- the bytes of the list
pub size_small : (l : Layout) (k n : ℕ) → k ≡ size_of l → n < 2 ^ 32 → k * n < 68719476736
size_small Layout.Pages k n e h = rw e (omega arith)
size_small Layout.Regular k n e h = rw e (omega arith)
size_small Layout.Compressed k n e h = rw e (omega arith)

pub size_is : (q : Place) (l : Layout) (k : ℕ) → l ≡ layout q.page.kind → k ≡ size_of l → k * q.page.functions_len ≡ size_at q
size_is q l k el ek = ap (λ (x : ℕ). x * q.page.functions_len) (ek ∙ ap size_of el)

-- lists that lie in the section
module _ (s : List ℕ) (q : Place) where
  pub list_inside : list_there s q ≡ true → first_at q + size_at q ≤ length s
  unfolding list_there
  list_inside t = reading.fits (size_at q) s (first_at q) t

  pub list-is : (x r : Slice) → x.bytes ≡ s → r ≡ part_in x (first_at q) (size_at q) → r.bytes ≡ list_at s q
  unfolding list_at
  list-is x r ex e = reading.bytes_of e ∙ ap (λ (l : List ℕ). part_of l (first_at q) (size_at q)) ex

  pub list-long : (list : List ℕ) → list_there s q ≡ true → list ≡ list_at s q → size_at q ≤ length list
  unfolding list_at
  list-long list t e = omega (arith, ap length e, reading.length_part s (first_at q) (size_at q) (list_inside t))

  pub locals-inside : locals_there s q ≡ true → q.offset + q.page.local_opcodes_offset + 4 * q.page.local_opcodes_len ≤ length s
  unfolding locals_there
  locals-inside t = reading.fits _ s _ t

  module _ (there : Bool) where
    pub none-there : there ≡ false → [] ≡ cond there (locals_at s q) []
    none-there e = simp e

    pub are-there : there ≡ true → (r : List ℕ) → r ≡ part_of s (q.offset + q.page.local_opcodes_offset) (4 * q.page.local_opcodes_len) → r ≡ cond there (locals_at s q) []
    unfolding locals_at
    are-there e r p = p ∙ simp e

module _ (x : Slice) (q : Place) where
  pub listed : list_there x.bytes q ≡ true → (r : Slice) → r ≡ part_in x (first_at q) (size_at q) → r ≡ list_in x q
  listed t r e = e ∙ simp t

  pub unlisted : list_there x.bytes q ≡ false → slice x.start [] ≡ list_in x q
  unlisted t = simp t

-- the part of an opcode
module _ (globals locals : Slice) (index : ℕ) where
  abbrev count : ℕ
  count = length globals.bytes / 4

  pub global-part : (r : Slice) → index < count → r ≡ part_in globals (4 * index) 4 → r ≡ opcode_part_in globals locals index
  global-part r h e = e ∙ four-part globals (4 * index) (reading.grants 4 globals.bytes (4 * index) (omega arith)) ∙ part-global globals locals index h

  pub local-part : (r : Slice) (o : ℕ) → o ≡ 4 * (index - count) → count ≤ index → index < count + length locals.bytes / 4 → r ≡ part_in locals o 4 → r ≡ opcode_part_in globals locals index
  local-part r o eo h t e = e ∙ four-part locals o (reading.grants 4 locals.bytes o (omega arith)) ∙ part-local globals locals index h o eo

  pub no_part : count + length locals.bytes / 4 ≤ index → slice locals.start [] ≡ opcode_part_in globals locals index
  no_part h =
      let o : ℕ = 4 * (index - count) in
      four-none locals (4 * (index - count)) (reading.was-refused 4 locals.bytes (4 * (index - count)) (reading.refused 4 locals.bytes (4 * (index - count)) (omega arith)))
      ∙ part-local globals locals index (omega arith) (4 * (index - count)) refl

-- the opcode that an index names, where local opcodes that are not there are none
module _ (globals : List ℕ) (index : ℕ) where
  is-global : index < length globals / 4 → is_global globals index ≡ true
  unfolding is_global
  is-global g = lt-ltb index (length globals / 4) g

  any-readable : (b : Bool) → not (b || true) ≡ false
  any-readable true = refl
  any-readable false = refl

  module _ (locals : List ℕ) (there : Bool) where
    abbrev lent : List ℕ
    lent = cond there locals []

    same-named : resolve_of globals lent there index ≡ resolve_of globals locals there index
    unfolding resolve_of opcode_part is_global
    same-named = by there
      where
        by : (b : Bool) → resolve_of globals (cond b locals []) b index ≡ resolve_of globals locals b index
        by true = refl
        by false = by_place (dec_lt index (length globals / 4))
          where
            by_place : Dec (index < length globals / 4) → resolve_of globals [] false index ≡ resolve_of globals locals false index
            by_place (yes g) = simp (lt-ltb index (length globals / 4) g)
            by_place (no g) = simp (le-ltb index (length globals / 4) (omega arith))

    -- the part of a global opcode is four bytes; of a local one, where the local opcodes are not there, it is none
    global-long : index < length globals / 4 → 4 ≤ length (opcode_part globals lent index)
    unfolding opcode_part four_of is_global
    global-long h =
        simp (lt-ltb index (length globals / 4) h, reading.grants 4 globals (4 * index) (omega arith))
        (omega (arith, reading.length_part globals (4 * index) 4 (omega arith)))

    local-short : length globals / 4 ≤ index → there ≡ false → length (opcode_part globals lent index) ≡ 0
    unfolding opcode_part four_of is_global granted_of
    local-short h e = simp (le-ltb index (length globals / 4) h, e, lt-leb (4 * (index - length globals / 4) + 4) 0 (omega arith))

    module _ (bytes : List ℕ) (eb : bytes ≡ opcode_part globals lent index) where
      unreadable : length globals / 4 ≤ index → not (is_global globals index || false) ≡ true
      unfolding is_global
      unreadable h = simp (le-ltb index (length globals / 4) h)

      not_named : (e : Error) → length bytes < 4 → e ≡ cond there Error.LocalIndex Error.LocalOpcodes → refused (number_of e) ≡ resolve_of globals locals there index
      not_named e h p = ap (λ (x : Error). refused (number_of x)) p ∙ by there refl ∙ same-named
        where
          by : (b : Bool) → there ≡ b → refused (number_of (cond b Error.LocalIndex Error.LocalOpcodes)) ≡ resolve_of globals lent b index
          by true t = no-opcode globals index lent true (any-readable (is_global globals index)) bytes eb (reading.refused 4 bytes 0 (omega arith))
          by false t = by_place (dec_lt index (length globals / 4))
            where
              by_place : Dec (index < length globals / 4) → refused 11 ≡ resolve_of globals lent false index
              by_place (yes g) = absurd (omega (arith, ap length eb, global-long g))
              by_place (no g) = no-locals globals index lent false (unreadable (omega arith))

      is-named : (x : ℕ) → 4 ≤ length bytes → x ≡ word_at 4 bytes 0 → good x ≡ resolve_of globals locals there index
      is-named x h p = by there refl ∙ same-named
        where
          told : read_of 4 bytes 0 ≡ Some x
          told = reading.granted 4 bytes 0 (omega arith) ∙ ap Some (sym (reading.there 4 bytes 0 (omega arith)) ∙ sym p)

          readable : (b : Bool) → index < length globals / 4 → not (is_global globals index || b) ≡ false
          readable b g = simp (is-global g)

          by : (b : Bool) → there ≡ b → good x ≡ resolve_of globals lent b index
          by true t = an-opcode globals index lent true (any-readable (is_global globals index)) bytes eb x told
          by false t = by_place (dec_lt index (length globals / 4))
            where
              by_place : Dec (index < length globals / 4) → good x ≡ resolve_of globals lent false index
              by_place (yes g) = an-opcode globals index lent false (readable false g) bytes eb x told
              by_place (no g) = absurd (omega (arith, ap length eb, local-short (omega arith) t))

-- the same of a page's place
module _ (s globals : List ℕ) (q : Place) (index : ℕ) (there : Bool) (et : there ≡ locals_there s q) (locals : List ℕ) (el : locals ≡ cond there (locals_at s q) [])
    (bytes : List ℕ) (eb : bytes ≡ opcode_part globals locals index) where
  lent-part : bytes ≡ opcode_part globals (cond there (locals_at s q) []) index
  lent-part = eb ∙ ap (λ (l : List ℕ). opcode_part globals l index) el

  there-is : resolve_of globals (locals_at s q) there index ≡ resolve_of globals (locals_at s q) (locals_there s q) index
  there-is = ap (λ (b : Bool). resolve_of globals (locals_at s q) b index) et

  pub names-none : (e : Error) → length bytes < 4 → e ≡ cond there Error.LocalIndex Error.LocalOpcodes → refused (number_of e) ≡ resolve_of globals (locals_at s q) (locals_there s q) index
  names-none e h p = not_named globals index (locals_at s q) there bytes lent-part e h p ∙ there-is

  pub names-one : (x : ℕ) → 4 ≤ length bytes → x ≡ word_at 4 bytes 0 → good x ≡ resolve_of globals (locals_at s q) (locals_there s q) index
  names-one x h p = is-named globals index (locals_at s q) there bytes lent-part x h p ∙ there-is

-- the word in a list
pub word_of : (list l : List ℕ) (o x : ℕ) → list ≡ l → x ≡ word_at 4 list o → x ≡ word_at 4 l o
word_of list l o x e h = rw e at h

-- an entry, by the page's kind
pub entry-there : (k j : Kind) (n i m : ℕ) → j ≡ k → size_of (layout j) * n ≤ m → i < n → size_of (layout k) * i + size_of (layout k) ≤ m
entry-there Kind.Regular j n i m e h t =
    let u : 8 * n ≤ m = rw e at h in
    omega arith
entry-there Kind.Compressed j n i m e h t =
    let u : 4 * n ≤ m = rw e at h in
    omega arith

pub word-by : (k j : Kind) (list : List ℕ) (i x : ℕ) → j ≡ k → x ≡ word_at 4 list (size_of (layout j) * i) → x ≡ word_at 4 list (size_of (layout k) * i)
word-by k j list i x e h = rw e at h

module _ (list : List ℕ) (pg : Page) (next i : ℕ) where
  pub no-entry : pg.functions_len ≤ i → record { word = 0; start = next } ≡ entry_in list pg next i
  unfolding entry_in
  no-entry h = simp (le-ltb i pg.functions_len h)

  pub regular-entry : pg.kind ≡ Kind.Regular → i < pg.functions_len → (w : ℕ) → w ≡ word_at 4 list (8 * i) → record { word = w; start = pg.base + w } ≡ entry_in list pg next i
  unfolding entry_in start_in key_of
  regular-entry p h w e = simp (lt-ltb i pg.functions_len h, p, e)

  pub compressed-entry : pg.kind ≡ Kind.Compressed → i < pg.functions_len → (w : ℕ) → w ≡ word_at 4 list (4 * i)
      → record { word = w; start = pg.base + w % 16777216 } ≡ entry_in list pg next i
  unfolding entry_in start_in key_of
  compressed-entry p h w e = simp (lt-ltb i pg.functions_len h, p, e)

  module _ (h : i < pg.functions_len) (here : Entry) (e : here ≡ entry_in list pg next i) where
    pub word-is : here.word ≡ word_at 4 list (size_of (layout pg.kind) * i)
    unfolding entry_in
    word-is = ap (λ (x : Entry). x.word) e ∙ simp (lt-ltb i pg.functions_len h)

    pub start_is : here.start ≡ start_in list pg i
    unfolding entry_in
    start_is = ap (λ (x : Entry). x.start) e ∙ simp (lt-ltb i pg.functions_len h)

pub past_is : (list : List ℕ) (pg : Page) (next i : ℕ) (after : Entry) → after ≡ entry_in list pg next (i + 1) → after.start ≡ end_in list pg next i
past_is list pg next i after e = by_place (dec_lt (i + 1) pg.functions_len)
  where
    by_place : Dec (i + 1 < pg.functions_len) → after.start ≡ end_in list pg next i
    by_place (yes h) = start_is list pg next (i + 1) h after e ∙ sym (end-inside list pg next i h)
    by_place (no h) = ap (λ (x : Entry). x.start) (e ∙ sym (no-entry list pg next (i + 1) (omega arith))) ∙ sym (end-last list pg next i (omega arith))

-- one test of two numbers: whether either has more than 32 bits
pub above0 : (n : ℕ) → eqb n 0 ≡ false → 0 < n
above0 zero e = cc
above0 (suc n) e = omega arith

pub none-above : (a b : ℕ) → eqb (a / 4294967296 + b / 4294967296) 0 ≡ true → (a < 4294967296) × (b < 4294967296)
none-above a b e =
    let h = eqb-true _ _ e in
    (omega (arith, h), omega (arith, h))

-- the checks of a read
module _ (s : List ℕ) (q : Place) (i : ℕ) where
  pub entry_listed : entry_there s q i ≡ true → (list_there s q ≡ true) × (i < q.page.functions_len)
  unfolding entry_there
  entry_listed t = by (ltb i q.page.functions_len) (list_there s q) t (ltb-true i q.page.functions_len)
    where
      by : (b d : Bool) → b && d ≡ true → (b ≡ true → i < q.page.functions_len) → (d ≡ true) × (i < q.page.functions_len)
      by true d e f = (e, f refl)
      by false d e f = absurd (subst T (sym e) tt)

  pub tests-entry : (b : Bool) → i < q.page.functions_len → b ≡ list_there s q → b ≡ entry_there s q i
  unfolding entry_there
  tests-entry b h e = e ∙ simp (lt-ltb i q.page.functions_len h)

  pub past-entries : q.page.functions_len ≤ i → false ≡ entry_there s q i
  unfolding entry_there
  past-entries h = simp (le-ltb i q.page.functions_len h)

module _ (s globals : List ℕ) (q : Place) (i : ℕ) where
  pub not_there_lem : entry_there s q i ≡ false → (e : Error) → e ≡ no_entry q.page.kind → refused (number_of e) ≡ read_placed s globals q i
  unfolding read_placed
  not_there_lem t e p = ap (λ (x : Error). refused (number_of x)) p ∙ simp t

  module _ (t : list_there s q ≡ true) where
    module _ (h : i < q.page.functions_len) (list : List ℕ) (el : list ≡ list_at s q)
        (here : Entry) (eh : here ≡ entry_in list q.page q.next i) (after : Entry) (ea : after ≡ entry_in list q.page q.next (i + 1)) where
      starts : start_in (list_at s q) q.page i ≡ here.start
      starts = ap (λ (x : List ℕ). start_in x q.page i) (sym el) ∙ sym (start_is list q.page q.next i h here eh)

      ends : end_in (list_at s q) q.page q.next i ≡ after.start
      ends = ap (λ (x : List ℕ). end_in x q.page q.next i) (sym el) ∙ sym (past_is list q.page q.next i after ea)

      start-high : 4294967296 ≤ here.start → refused 13 ≡ read_placed s globals q i
      unfolding read_placed entry_there function_in
      start-high k = simp (t, lt-ltb i q.page.functions_len h, starts, le-ltb here.start 4294967296 k)

      end-high : here.start < 4294967296 → 4294967296 ≤ after.start → refused 13 ≡ read_placed s globals q i
      unfolding read_placed entry_there function_in
      end-high j k = simp (t, lt-ltb i q.page.functions_len h, starts, ends, lt-ltb here.start 4294967296 j, le-ltb after.start 4294967296 k)

      -- one test for both
      pub too-high : 0 < here.start / 4294967296 + after.start / 4294967296 → refused 13 ≡ read_placed s globals q i
      too-high some = by-start (dec_lt here.start 4294967296)
        where
          by-start : Dec (here.start < 4294967296) → refused 13 ≡ read_placed s globals q i
          by-start (no n) = start-high (omega arith)
          by-start (yes y) = end-high y (omega (arith, some))

      pub is_read : here.start < 4294967296 → after.start < 4294967296 → (w : Checked (ℕ × Origin)) → w ≡ opcode_for s globals q i
          → spanning q i here.start after.start w ≡ read_placed s globals q i
      unfolding read_placed entry_there function_in
      is_read j k w e = ap (spanning q i here.start after.start) e ∙ by (opcode_in q.page.kind globals (locals_at s q) (locals_there s q) (list_at s q) i) refl
        where
          by : (v : Checked ℕ) → opcode_in q.page.kind globals (locals_at s q) (locals_there s q) (list_at s q) i ≡ v
              → spanning q i here.start after.start (sourced (origin_in q.page.kind globals (list_at s q) i) v) ≡ read_placed s globals q i
          by (good x) f = simp (t, lt-ltb i q.page.functions_len h, starts, ends, lt-ltb here.start 4294967296 j, lt-ltb after.start 4294967296 k, f)
          by (refused x) f = simp (t, lt-ltb i q.page.functions_len h, starts, ends, lt-ltb here.start 4294967296 j, lt-ltb after.start 4294967296 k, f)

-- a page that was read: what is read by its place is its function
module _ (s : List ℕ) (p offset next first : ℕ) (pg : Page) (read : page_of s offset first ≡ good pg) where
  abbrev place : Place
  place = record { index = p; offset = offset; next = next; page = pg }

  starts-in : offset + 4 ≤ length s
  starts-in = starts-inside s offset first pg read

  pub list-there : list_there s place ≡ true
  unfolding list_there
  list-there =
      reading.grants (size_at place) s (first_at place) (omega (arith, starts-in, length-drop offset s, reading.fits _ _ _ (functions-granted s offset first pg read)))

  pub same-list : list_at s place ≡ functions_of (drop offset s) pg
  unfolding list_at functions_of
  same-list = sym (reading.part-of-part s offset pg.functions_offset _)

  same_locals : locals_at s place ≡ locals_of (drop offset s) pg
  unfolding locals_at locals_of
  same_locals = sym (reading.part-of-part s offset pg.local_opcodes_offset _)

  same-there : locals_there s place ≡ locals_granted (drop offset s) pg
  unfolding locals_there locals_granted
  same-there = by-room (dec_le (offset + pg.local_opcodes_offset + 4 * pg.local_opcodes_len) (length s))
    where
      by-room : Dec (offset + pg.local_opcodes_offset + 4 * pg.local_opcodes_len ≤ length s)
          → granted_of (4 * pg.local_opcodes_len) s (offset + pg.local_opcodes_offset) ≡ granted_of (4 * pg.local_opcodes_len) (drop offset s) pg.local_opcodes_offset
      by-room (yes r) = reading.grants _ s _ r ∙ sym (reading.grants _ (drop offset s) _ (omega (arith, starts-in, length-drop offset s)))
      by-room (no r) =
          reading.was-refused _ s _ (reading.refused _ s _ (omega arith))
          ∙ sym (reading.was-refused _ (drop offset s) _ (reading.refused _ (drop offset s) _ (omega (arith, starts-in, length-drop offset s))))

  pub placed : (globals : List ℕ) (i : ℕ) → i < pg.functions_len → read_placed s globals place i ≡ function_of (drop offset s) pg p globals next i
  unfolding read_placed entry_there function_of
  placed globals i h = simp (list-there, lt-ltb i pg.functions_len h, same-list, same_locals, same-there)

-- function i of page p
pub at_place : (s : List ℕ) (l : Lists) (p : ℕ) (pg : Page) → page_of s (offset_of s l p) (first_of s l p) ≡ good pg → (i : ℕ) → i < pg.functions_len
    → read_placed s (globals_of s l) (place_at s l p pg) i ≡ function_at s l p pg i
unfolding function_at page_at
at_place s l p pg read i h = placed s p (offset_of s l p) (first_of s l (suc p)) (first_of s l p) pg read (globals_of s l) i h
