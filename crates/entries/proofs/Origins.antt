-- What a function's record says is true of the section: its page and its index, and that its opcode stands where its origin says.
-- Assumes nothing.
use Prim.Native.Nat.{ℕ, ◌+◌, ◌-◌, ◌*◌, ◌/◌, ◌≤◌, ◌<◌}
use mathlib.Core.Path.{◌≡◌, refl, ap, sym, subst, ◌∙◌}
use mathlib.Core.List.{List, []}
use mathlib.Core.Bool.{Bool, true, false, cond, ◌||◌}
use native.Mathlib.Nat.{add-zero}
use native.Mathlib.Omega.{arith}
use lib.Dec.{T, ltb}
use lib.ListN.{length, drop}
use Rattle.reader.specs.Reader.{granted_of, word_at, part_of}
use Rattle.reader.proofs.Laws as reading
use Rattle.search.specs.Search.{size_of}
use Rattle.raw.specs.declared.Kind.{Kind}
use Rattle.raw.specs.declared.Lists.{Lists}
use Rattle.raw.specs.declared.Page.{Page}
use Rattle.raw.specs.Checked.{Checked, good, refused, ◌>>=◌, ◌>>◌, check}
use Rattle.raw.specs.Raw.{layout, globals_of, grant_of, page_of, locals_granted}
use Rattle.raw.proofs.Grants.{granted}
use Rattle.raw.proofs.Opens.{starts-inside, functions-granted}
use Rattle.entries.specs.declared.Origin.{Origin}
use Rattle.entries.specs.declared.Function.{Function}
use Rattle.entries.specs.Entries.{four_of, is_global, opcode_part, functions_of, locals_of, start_in, end_in, resolve_of, opcode_in, palette_of, origin_in, function_in, function_of}
use Rattle.entries.specs.Section.{first_of, offset_of, page_at, function_at, entries_at, index_at, opcode_at}

-- what is given passed its checks
given : (b d : Bool) (x : Checked ℕ) (g : ℕ → Function) (f : Function)
    → ◌>>◌ (check 13 b) (◌>>◌ (check 13 d) (◌>>=◌ x (λ opcode. good (g opcode)))) ≡ good f → (opcode : ℕ) × (x ≡ good opcode) × (g opcode ≡ f)
given true true (good x) g f e = (x, refl, cc)
given true true (refused k) g f e = absurd (let z : ◌≡◌ {A = ℕ} 0 1 = cc in omega arith)
given true false x g f e = absurd (let z : ◌≡◌ {A = ℕ} 0 1 = cc in omega arith)
given false d x g f e = absurd (let z : ◌≡◌ {A = ℕ} 0 1 = cc in omega arith)

module _ (p : ℕ) (globals locals : List ℕ) (there : Bool) (functions : List ℕ) (pg : Page) (next i : ℕ) (f : Function) where
  says : function_in p globals locals there functions pg next i ≡ good f
      → (f.page ≡ p) × (f.index ≡ i) × (f.origin ≡ origin_in pg.kind globals functions i) × (opcode_in pg.kind globals locals there functions i ≡ good f.opcode)
  unfolding function_in
  says e =
      let r = given (ltb (start_in functions pg i) 4294967296) (ltb (end_in functions pg next i) 4294967296) (opcode_in pg.kind globals locals there functions i) _ f e in (
        sym (ap (λ (g : Function). g.page) r.2),
        sym (ap (λ (g : Function). g.index) r.2),
        sym (ap (λ (g : Function). g.origin) r.2),
        r.1 ∙ ap (λ (g : Function). good g.opcode) r.2,
      )

-- page and index
pub says-where : (s : List ℕ) (l : Lists) (p : ℕ) (pg : Page) (i : ℕ) (f : Function) → function_at s l p pg i ≡ good f → (f.page ≡ p) × (f.index ≡ i)
unfolding function_at function_of
says-where s l p pg i f e =
    let r = says p _ _ _ _ pg _ i f e in
    (r.0, r.1)

-- four bytes with a word in them are there
none-there : granted_of 4 [] 0 ≡ true → ⊥
unfolding granted_of
none-there e = subst T (sym e) tt

four-word : (x : List ℕ) (o : ℕ) → granted_of 4 (four_of x o) 0 ≡ true → (o + 4 ≤ length x) × (word_at 4 (four_of x o) 0 ≡ word_at 4 x o)
unfolding four_of
four-word x o t = by (granted_of 4 x o) refl t
  where
    by : (b : Bool) → granted_of 4 x o ≡ b → granted_of 4 (cond b (part_of x o 4) []) 0 ≡ true → (o + 4 ≤ length x) × (word_at 4 (cond b (part_of x o 4) []) 0 ≡ word_at 4 x o)
    by true e g =
        let fits = reading.fits 4 x o e in
        (fits, reading.word-in-part 4 x o 4 0 fits (omega arith) ∙ ap (word_at 4 x) (add-zero o))
    by false e g = absurd (none-there g)

-- an index that was resolved
resolved : (b d : Bool) (w x : ℕ) → ◌>>◌ (check 11 b) (◌>>◌ (check 14 d) (good w)) ≡ good x → (b ≡ true) × (d ≡ true) × (x ≡ w)
resolved true true w x e = (refl, refl, cc)
resolved true false w x e = absurd (let z : ◌≡◌ {A = ℕ} 0 1 = cc in omega arith)
resolved false d w x e = absurd (let z : ◌≡◌ {A = ℕ} 0 1 = cc in omega arith)

-- the opcode stands where its origin says
module _ (s : List ℕ) (l : Lists) (grant : grant_of s l ≡ good l) (p : ℕ) (pg : Page) (read : page_of s (offset_of s l p) (first_of s l p) ≡ good pg) (i : ℕ) (h : i < pg.functions_len) where
  abbrev page : List ℕ
  page = drop (offset_of s l p) s

  abbrev functions : List ℕ
  functions = functions_of page pg

  abbrev pub Stands : ℕ → Origin → Type 0
  Stands x o = (granted_of 4 s (opcode_at s l pg p i o) ≡ true) × (x ≡ word_at 4 s (opcode_at s l pg p i o))

  globals-inside : l.global_opcodes_offset + 4 * l.global_opcodes_len ≤ length s
  globals-inside = reading.fits _ s _ (granted s l l grant).1

  functions-inside : entries_at s l pg p i + size_of (layout pg.kind) * pg.functions_len ≤ length s
  functions-inside =
      omega (arith, starts-inside s (offset_of s l p) (first_of s l p) pg read, lib.ListN.length-drop (offset_of s l p) s, reading.fits _ _ _ (functions-granted s (offset_of s l p) (first_of s l p) pg read))

  count-globals : length (globals_of s l) / 4 ≡ l.global_opcodes_len
  unfolding globals_of
  count-globals = omega (arith, reading.length_part s l.global_opcodes_offset (4 * l.global_opcodes_len) globals-inside)

  -- a word of the page's list
  listed : (k : Kind) → pg.kind ≡ k → (o : ℕ) → o + 4 ≤ size_of (layout k) * pg.functions_len → word_at 4 functions o ≡ word_at 4 s (entries_at s l pg p i + o)
  unfolding functions_of
  listed k e o t =
      let u : o + 4 ≤ size_of (layout pg.kind) * pg.functions_len = rw e t in
      ap (λ (x : List ℕ). word_at 4 x o) (reading.part-of-part s (offset_of s l p) pg.functions_offset _) ∙ reading.word-in-part 4 s (entries_at s l pg p i) _ o functions-inside u

  in_entry : pg.kind ≡ Kind.Regular → (x : ℕ) → x ≡ word_at 4 functions (8 * i + 4) → Stands x Origin.Regular
  in_entry e x q =
      let inside : entries_at s l pg p i + 8 * pg.functions_len ≤ length s = rw e at functions-inside in
      (reading.grants 4 s _ (omega arith), q ∙ listed Kind.Regular e (8 * i + 4) (omega arith))

  in-globals : (index x : ℕ) → index ≡ index_at s l pg p i → 4 * index + 4 ≤ length (globals_of s l) → x ≡ word_at 4 (globals_of s l) (4 * index) → Stands x Origin.Global
  unfolding globals_of
  in-globals index x e t q =
      let u : 4 * index + 4 ≤ 4 * l.global_opcodes_len = omega (arith, reading.length_part s l.global_opcodes_offset (4 * l.global_opcodes_len) globals-inside) in
      (reading.grants 4 s _ (omega (arith, e, globals-inside)), q ∙ reading.word-in-part 4 s _ _ (4 * index) globals-inside u ∙ ap (λ (k : ℕ). word_at 4 s (l.global_opcodes_offset + 4 * k)) e)

  in-locals : (index x : ℕ) → index ≡ index_at s l pg p i → locals_granted page pg ≡ true → 4 * (index - l.global_opcodes_len) + 4 ≤ length (locals_of page pg)
      → x ≡ word_at 4 (locals_of page pg) (4 * (index - l.global_opcodes_len)) → Stands x Origin.Local
  unfolding locals_of locals_granted
  in-locals index x e g t q =
      let o : ℕ = 4 * (index - l.global_opcodes_len) in
      let inside = reading.fits _ page _ g in
      let whole : offset_of s l p + pg.local_opcodes_offset + 4 * pg.local_opcodes_len ≤ length s =
      omega (arith, starts-inside s (offset_of s l p) (first_of s l p) pg read, lib.ListN.length-drop (offset_of s l p) s, inside) in
      let u : 4 * (index - l.global_opcodes_len) + 4 ≤ 4 * pg.local_opcodes_len = omega (arith, reading.length_part page pg.local_opcodes_offset (4 * pg.local_opcodes_len) inside) in (
        reading.grants 4 s _ (omega (arith, e)),
        q ∙ ap (λ (y : List ℕ). word_at 4 y (4 * (index - l.global_opcodes_len))) (reading.part-of-part s (offset_of s l p) pg.local_opcodes_offset _)
            ∙ reading.word-in-part 4 s _ _ (4 * (index - l.global_opcodes_len)) whole u ∙ ap (λ (k : ℕ). word_at 4 s (offset_of s l p + pg.local_opcodes_offset + 4 * (k - l.global_opcodes_len))) e,
      )

  by-palette : (index x : ℕ) → index ≡ index_at s l pg p i → resolve_of (globals_of s l) (locals_of page pg) (locals_granted page pg) index ≡ good x → Stands x (palette_of (globals_of s l) index)
  unfolding resolve_of opcode_part palette_of
  by-palette index x e q =
      let r = resolved (is_global (globals_of s l) index || locals_granted page pg) (granted_of 4 (opcode_part (globals_of s l) (locals_of page pg) index) 0) _ x q in
      by (is_global (globals_of s l) index) r.0 r.1 r.2
    where
      four : Bool → List ℕ
      four b = cond b (four_of (globals_of s l) (4 * index)) (four_of (locals_of page pg) (4 * (index - length (globals_of s l) / 4)))

      by : (b : Bool) → (b || locals_granted page pg) ≡ true → granted_of 4 (four b) 0 ≡ true → x ≡ word_at 4 (four b) 0 → Stands x (cond b Origin.Global Origin.Local)
      by true t g w =
          let r = four-word (globals_of s l) (4 * index) g in
          in-globals index x e r.0 (w ∙ r.1)
      by false t g w =
          let r = four-word (locals_of page pg) (4 * (index - length (globals_of s l) / 4)) g in
          in-locals index x e t (rw count-globals at r.0) (rw count-globals at (w ∙ r.1))

  pub stands : (f : Function) → function_at s l p pg i ≡ good f → Stands f.opcode f.origin
  unfolding function_at function_of page_at opcode_in origin_in
  stands f e =
      let r = says p _ _ _ _ pg _ i f e in
      subst (Stands f.opcode) (sym r.2) (by pg.kind refl r.3)
    where
      by : (k : Kind) → pg.kind ≡ k → opcode_in k (globals_of s l) (locals_of page pg) (locals_granted page pg) functions i ≡ good f.opcode
          → Stands f.opcode (origin_in k (globals_of s l) functions i)
      by Kind.Regular k q = in_entry k f.opcode cc
      by Kind.Compressed k q = by-palette (word_at 4 functions (4 * i) / 16777216) f.opcode (ap (λ (w : ℕ). w / 16777216) (listed Kind.Compressed k (4 * i) (omega arith))) q
