-- What a call answers, case by case, on plain values.
-- Assumes nothing.
use Prim.Native.Nat.{ℕ, ◌+◌, ◌-◌, ◌*◌, ◌/◌, ◌^◌, ◌≤◌, ◌<◌, min}
use mathlib.Core.Path.{◌≡◌, refl, ap, sym, ◌∙◌}
use mathlib.Core.List.{List, [], ◌++◌, map}
use mathlib.Core.Logic.{◌⊎◌, inl, inr}
use mathlib.Core.Bool.{Bool, true, false}
use native.Mathlib.Omega.{arith}
use borrow.Author.Tests.{lt-ltb, le-ltb, lt-leb, le-leb, leb-true}
use borrow.Rule.Slice.PartMut.{mid_of, put_mid}
use lib.Dec.{leb}
use lib.ListN.{length, drop}
use Rattle.std.specs.Prelude.{Result, Ok, Err, IsErrAnd}
use Rattle.raw.specs.declared.Lists.{Lists}
use Rattle.raw.specs.declared.Error.{Error}
use Rattle.raw.specs.Checked.{Checked, good, refused, ◌>>◌, check, number_of}
use Rattle.raw.specs.declared.section.Section.{Section}
use Rattle.raw.specs.Section.{Standing, standing}
use Rattle.reader.specs.Reader.{Slice}
use Rattle.raw.specs.Raw.{version_of, parse_of}
use Rattle.raw.proofs.Sections.{stands}
use Rattle.raw.proofs.Numbers.{said-15, number-of}
use Rattle.listing.specs.Listing.{lines_of, refused_of, end_of, written, over, whole_of, lines_in}
use Rattle.fill.specs.declared.Filled.{Filled}
use Rattle.fill.specs.declared.Stop.{Stop}
use Rattle.fill.specs.Fill.{Taken, taken_of, written_over, Outcome as Filling, outcome, fill_of, why_of, filled_told}
use Rattle.fill.proofs.Left.{few}
use Rattle.lister.specs.declared.Place.{Place}
use Rattle.lister.specs.declared.Refusal.{Refusal}
use Rattle.lister.specs.Lister.{accepted_of, answers_text, listing_of}
use Rattle.lister.specs.Block.{place_at, Outcome, room_in, counted, stop_text, is_end, taken_block, block_of, accepted_told}
use Rattle.lister.proofs.Texts.{fits_whole, length-end, length-refused, length_functions, lines_are, bytes_of, starts-inside, fewer_bytes, behind}

-- an input of at most 65,536 bytes is listed as it parses
module _ (s : List ℕ) where
  pub too_long : 65536 < length s → refused 30 ≡ accepted_of s
  unfolding accepted_of
  too_long h = simp (lt-leb _ _ h)

  pub short : length s ≤ 65536 → {x : Checked Lists} → x ≡ parse_of s → x ≡ accepted_of s
  unfolding accepted_of
  short h e = simp (le-leb _ _ h) e

-- what refuses a section refuses its listing, by the same number
pub passed_on : (r : Result Section Refusal) (e : Error) → IsErrAnd r (λ x. x ≡ Refusal.Section e) → accepted_told r ≡ refused (number_of e)
passed_on (Ok x) e h = absurd h
passed_on (Err d) e h = ap (λ (x : Refusal). accepted_told (Err x)) h

-- after a block that is full
pub nothing_written : (out : List ℕ) → written 0 out ≡ whole_of [] out
unfolding over
nothing_written out = sym (fits_whole [] out (omega arith))

pub not-ended : (x : Stop) → (x ≡ Stop.End → ⊥) → false ≡ is_end (why_of x)
not-ended Stop.Full h = refl
not-ended Stop.End h = absurd (h refl)
not-ended (Stop.Refused e) h = refl

length-stop : (n : ℕ) → n < 2 ^ 64 → (x : Stop) → length (stop_text n (why_of x)) ≤ 25
length-stop n h Stop.Full = omega arith
length-stop n h Stop.End = length-end n h
length-stop n h (Stop.Refused e) = omega (arith, length-refused (number_of e) (omega (arith, (number-of e).1)))

-- `refused N`, and the end behind it: 52 bytes have room for both
module _ (k : ℕ) (h : k < 256) (out : List ℕ) (room : 52 ≤ length out) (n : ℕ) (l : List ℕ) (q : written n l ≡ whole_of (refused_of k) out) where
  refusal-room : length (refused_of k) + length (end_of 0) ≤ length out
  refusal-room = omega (arith, length-refused k h, length-end 0 (omega arith))

  refusal-over : written n l ≡ over (refused_of k) out
  refusal-over = q ∙ fits_whole (refused_of k) out (omega (arith, length-refused k h))

  pub refusal-ends : n ≤ length l
  refusal-ends = starts-inside out (refused_of k) (end_of 0) refusal-room refusal-over

  module _ (m : ℕ) (r : List ℕ) (w : written m r ≡ whole_of (end_of 0) (mid_of n (length l - n) l)) where
    pub refusal-bytes : n + m ≤ length out
    refusal-bytes = fewer_bytes out (refused_of k) (end_of 0) refusal-room refusal-over w

    pub refusal-written : written (n + m) (put_mid n (length l - n) l r) ≡ over (refused_of k ++ end_of 0) out
    refusal-written = behind out (refused_of k) (end_of 0) refusal-room refusal-over w

-- A block of functions: they were filled into a list, and lines and the line after them were written.
module _ (s : List ℕ) (l : Lists) (at : Place) (numbers out : List ℕ) (room : 52 ≤ length out) (many : length numbers ≡ 3 * room_in out)
    (b : Filled) (list : List ℕ) (e : filled_told b list ≡ fill_of s l at.cursor numbers) where
  abbrev t : Taken
  t = taken_of s l (room_in out) at.cursor

  abbrev lines : List ℕ
  lines = answers_text (map good t.written)

  filling : filled_told b list ≡ outcome t numbers
  unfolding fill_of
  filling =
      let q : length numbers / 3 ≡ room_in out = omega arith in
      e ∙ ap (λ (n : ℕ). outcome (taken_of s l n at.cursor) numbers) q

  how-many : b.functions ≡ length t.written
  how-many = ap (λ (o : Filling). o.functions) filling

  lines-room : length lines + 25 ≤ length out
  lines-room = omega (arith, length_functions t.written, few s l (room_in out) at.cursor)

  -- the lines are those of the functions
  module _ (n : ℕ) (out₁ : List ℕ) (q : written n out₁ ≡ lines_in list b.functions out) where
    lines-over : written n out₁ ≡ over lines out
    unfolding lines_in written_over
    lines-over =
        let k : min b.functions (length out / 27) ≡ length t.written = omega (arith, how-many, few s l (room_in out) at.cursor) in
        let same : lines_of (length t.written) list ≡ lines = rw (ap (λ (o : Filling). o.list) filling) (lines_are t.written (drop (3 * length t.written) numbers)) in
        q ∙ ap (λ (j : ℕ). over (lines_of j list) out) k ∙ ap (λ (text : List ℕ). over text out) same

    -- and the line after them is the stop's
    module _ (functions : ℕ) (c : functions ≡ counted at.functions b.functions) where
      stop-room : length lines + length (stop_text functions (why_of b.stop)) ≤ length out
      stop-room = omega (arith, lines-room, length-stop functions (omega arith) b.stop)

      pub lines_end : n ≤ length out₁
      lines_end = starts-inside out lines (stop_text functions (why_of b.stop)) stop-room lines-over

      module _ (m : ℕ) (r : List ℕ) (w : written m r ≡ whole_of (stop_text functions (why_of b.stop)) (mid_of n (length out₁ - n) out₁)) where
        pub bytes_inside : n + m ≤ length out
        bytes_inside = fewer_bytes out lines (stop_text functions (why_of b.stop)) stop-room lines-over w

        pub block_written : (done : Bool) → done ≡ is_end (why_of b.stop)
            → ◌≡◌ {A = Outcome} (record { written = n + m; next = place_at b.next functions done; text = put_mid n (length out₁ - n) out₁ r }) (taken_block at.functions t out)
        unfolding taken_block
        block_written done q =
            let text : List ℕ = lines ++ stop_text functions (why_of b.stop) in
            let both = bytes_of text out (behind out lines (stop_text functions (why_of b.stop)) stop-room lines-over w) in
            simp (both.0, both.1, q, ap (λ (o : Filling). o.why) filling, ap (λ (o : Filling). o.next) filling, c, how-many)

-- where no section stands, its lists were refused, with the same number
not-listed : (x : Slice) (t : Checked Lists) (k : ℕ) → refused k ≡ standing x t → t ≡ refused k
not-listed x (good l) k e = absurd (let z : ◌≡◌ {A = ℕ} 0 1 = cc in omega arith)
not-listed x (refused j) k e = cc

-- What a call answers at a place: nothing after the end, or where there is no room.
module _ (x : Slice) (at : Place) (out : List ℕ) where
  pub nothing-more : (at.ended ≡ true) ⊎ ((at.ended ≡ false) × (length out < 52)) → ◌≡◌ {A = Outcome} (record { written = 0; next = at; text = out }) (block_of x.bytes at out)
  unfolding block_of
  nothing-more (inl e) = simp e
  nothing-more (inr h) = simp (h.0, lt-ltb _ _ h.1)

  module _ (e : at.ended ≡ false) (room : 52 ≤ length out) where
    pub where-refused : (k : ℕ) → refused k ≡ standing x (accepted_of x.bytes) → (n : ℕ) (r : List ℕ) → written n r ≡ over (refused_of k ++ end_of 0) out
        → ◌≡◌ {A = Outcome} (record { written = n; next = place_at at.cursor at.functions true; text = r }) (block_of x.bytes at out)
    unfolding block_of
    where-refused k f n r w =
        let same : accepted_of x.bytes ≡ refused k = not-listed x (accepted_of x.bytes) k f in
        let text = bytes_of (refused_of k ++ end_of 0) out w in
        simp (e, le-ltb _ _ room, same, text.0, text.1)

    pub where-whole : (z : Standing) → good z ≡ standing x (accepted_of x.bytes) → {o : Outcome} → o ≡ taken_block at.functions (taken_of z.bytes.bytes z.lists (room_in out) at.cursor) out → o ≡ block_of x.bytes at out
    unfolding block_of
    where-whole z f w =
        let g = stands x (accepted_of x.bytes) z f in
        let same : accepted_of x.bytes ≡ good z.lists = g.1 in
        simp (e, le-ltb _ _ room, same) (w ∙ ap (λ (b : Slice). taken_block at.functions (taken_of b.bytes z.lists (room_in out) at.cursor) out) g.0)

-- an input that is listed has few bytes, and parses
pub accepted-parses : (s : List ℕ) (l : Lists) → accepted_of s ≡ good l → (parse_of s ≡ good l) × (length s ≤ 65536)
unfolding accepted_of
accepted-parses s l e = by_length (leb (length s) 65536) refl e
  where
    by_length : (b : Bool) → leb (length s) 65536 ≡ b → (◌>>◌ (check 30 b) (parse_of s)) ≡ good l → (parse_of s ≡ good l) × (length s ≤ 65536)
    by_length true h q = (q, leb-true _ _ h)
    by_length false h q = absurd (let z : ◌≡◌ {A = ℕ} 0 1 = cc in omega arith)

-- of an input with another version that is written, and the end
pub other-version : (s : List ℕ) → 28 ≤ length s → length s ≤ 65536 → (version_of s ≡ 1 → ⊥) → listing_of s ≡ refused_of 15 ++ end_of 0
unfolding listing_of
other-version s h i v =
    let same : refused 15 ≡ accepted_of s = short s i (sym (said-15 s h v)) in
    simp (← same)
