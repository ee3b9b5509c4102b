-- Block after block is the whole listing, whatever the room of each call; and it ends.
-- Assumes nothing.
use Prim.Native.Nat.{ℕ, zero, suc, ◌+◌, ◌*◌, ◌≤◌, ◌<◌, zero-le}
use mathlib.Core.Path.{◌≡◌, refl, ap, sym, ◌∙◌}
use mathlib.Core.List.{List, [], ◌∷◌, ◌++◌, map, append_assoc, append-nil}
use mathlib.Core.Bool.{Bool, true, false, cond}
use native.Mathlib.Omega.{arith}
use native.Mathlib.Decide.{dec_lt}
use borrow.Author.Tests.{le-ltb}
use lib.ListN.{length, take, drop, length-append, length-take}
use lib.Seq.{take_all, take-append_seam}
use Rattle.reader.specs.Reader.{Bytes}
use Rattle.reader.proofs.Laws.{fits}
use Rattle.raw.specs.declared.Lists.{Lists}
use Rattle.raw.specs.Checked.{Checked, good, refused, either}
use Rattle.raw.proofs.Grants.{parsed, granted}
use Rattle.entries.specs.declared.Function.{Function}
use Rattle.iterate.specs.declared.Cursor.{Cursor}
use Rattle.iterate.specs.Iterate.{cursor, iterated}
use Rattle.iterate.proofs.Left.{bounded}
use Rattle.listing.specs.Listing.{refused_of, end_of}
use Rattle.fill.specs.Fill.{Why, full, ended, refusal, Taken, taken_of, refusal_in, answers_in}
use Rattle.fill.proofs.Left.{full_block}
use Rattle.fill.proofs.Together.{answers_from, calls-answer, from-the-first, no-more-than-left, front-block, whole-block}
use Rattle.lister.specs.declared.Place.{Place}
use Rattle.lister.specs.declared.Block.{Block}
use Rattle.lister.specs.Lister.{accepted_of, answer_text, answers_text, functions_in, listing_of}
use Rattle.lister.specs.Block.{place_at, start, Outcome, put, room_in, counted, stop_text, is_end, taken_block, refused_block, block_of, block_told}
use Rattle.lister.proofs.Cases.{too_long, accepted-parses}
use Rattle.lister.proofs.Texts.{some_end, some-refused, length_functions}

-- what a call wrote
abbrev pub said : Outcome → List ℕ
said o = take o.written o.text

-- the texts and the functions of answers one after the other
text-both : (a b : List (Checked Function)) → answers_text (a ++ b) ≡ answers_text a ++ answers_text b
unfolding answers_text
text-both [] b = refl
text-both (x ∷ a) b = ap (λ (t : List ℕ). answer_text x ++ t) (text-both a b) ∙ sym (append_assoc (answer_text x) (answers_text a) (answers_text b))

functions-both : (a b : List (Checked Function)) → functions_in (a ++ b) ≡ functions_in a + functions_in b
unfolding functions_in
functions-both [] b = omega arith
functions-both (good f ∷ a) b = omega (arith, functions-both a b)
functions-both (refused k ∷ a) b = functions-both a b

functions-all : (fs : List Function) → functions_in (map good fs) ≡ length fs
unfolding functions_in
functions-all [] = refl
functions-all (f ∷ fs) = ap suc (functions-all fs)

functions-few : (a : List (Checked Function)) → functions_in a ≤ length a
unfolding functions_in
functions-few [] = zero-le
functions-few (good f ∷ a) = omega (arith, functions-few a)
functions-few (refused k ∷ a) = omega (arith, functions-few a)

-- the whole text from a place on
unfoldable pub text_at : List ℕ → ℕ → Cursor → Lists → List ℕ
text_at s n c l = answers_text (answers_from s l c) ++ end_of (counted n (functions_in (answers_from s l c)))

unfoldable pub text_from : List ℕ → Place → List ℕ
text_from s at = cond at.ended [] (either (λ k. refused_of k ++ end_of 0) (text_at s at.functions at.cursor) (accepted_of s))

module _ (s : List ℕ) (l : Lists) (n : ℕ) (c : Cursor) (room : ℕ) where
  abbrev t : Taken
  t = taken_of s l room c

  abbrev m : ℕ
  m = counted n (length t.written)

  abbrev text : List ℕ
  text = answers_text (map good t.written) ++ stop_text m t.why

  -- the last block is all that is left
  all_left : t.why ≡ ended → text_at s n c l ≡ text
  unfolding text_at functions_in answers_text
  all_left e =
      let answered : answers_from s l c ≡ map good t.written = whole-block s l room c e ∙ ap (λ (w : Why). map good t.written ++ refusal_in w) e ∙ append-nil _ in
      let many : functions_in (answers_from s l c) ≡ length t.written = ap functions_in answered ∙ functions-all t.written in
      ap (λ (k : ℕ). answers_text (answers_from s l c) ++ end_of (counted n k)) many ∙ ap (λ (a : List (Checked Function)). answers_text a ++ end_of m) answered
      ∙ ap (λ (w : Why). answers_text (map good t.written) ++ stop_text m w) (sym e)

  -- another leaves what follows from its place on
  stop-text : (w : Why) → (w ≡ ended → ⊥) → answers_text (refusal_in w) ≡ stop_text m w
  unfolding answers_text
  stop-text full h = refl
  stop-text ended h = absurd (h refl)
  stop-text (refusal k) h = append-nil (refused_of k)

  stop-functions : (w : Why) → functions_in (refusal_in w) ≡ 0
  unfolding functions_in
  stop-functions full = refl
  stop-functions ended = refl
  stop-functions (refusal k) = refl

  front-left : (t.why ≡ ended → ⊥) → text_at s n c l ≡ text ++ text_at s m t.next l
  unfolding text_at
  front-left h =
      let rest : List (Checked Function) = answers_from s l t.next in
      let answered : answers_from s l c ≡ answers_in t ++ rest = front-block s l room c h in
      let many : counted n (functions_in (answers_from s l c)) ≡ counted m (functions_in rest) =
      omega (arith, ap functions_in answered, functions-both (answers_in t) rest, functions-both (map good t.written) (refusal_in t.why), functions-all t.written, stop-functions t.why) in
      let lines : answers_text (answers_from s l c) ≡ text ++ answers_text rest =
      ap answers_text answered ∙ text-both (answers_in t) rest
      ∙ ap (λ (x : List ℕ). x ++ answers_text rest) (text-both (map good t.written) (refusal_in t.why) ∙ ap (λ (x : List ℕ). answers_text (map good t.written) ++ x) (stop-text t.why h)) in
      ap (λ (x : List ℕ). x ++ end_of (counted n (functions_in (answers_from s l c)))) lines ∙ ap (λ (k : ℕ). (text ++ answers_text rest) ++ end_of k) many
      ∙ append_assoc text (answers_text rest) (end_of (counted m (functions_in rest)))

  -- and none is empty
  some-text : 0 < room → 0 < length text
  unfolding answers_text
  some-text h = by-stop t.why refl
    where
      by-stop : (w : Why) → t.why ≡ w → 0 < length text
      by-stop full e = simp (e, length-append) (omega (arith, full_block s l room c e, length_functions t.written))
      by-stop ended e = simp (e, length-append) (omega (arith, some_end m))
      by-stop (refusal k) e = simp (e, length-append) (omega (arith, some-refused k))

-- a place that is at the end, and one that is not
module _ (s : List ℕ) (p : Place) where
  pub at-the-end : p.ended ≡ true → text_from s p ≡ []
  unfolding text_from
  at-the-end e = simp e

  under-way : (l : Lists) → p.ended ≡ false → accepted_of s ≡ good l → text_from s p ≡ text_at s p.functions p.cursor l
  unfolding text_from
  under-way l e q = simp (e, q)

under-way-by : (w : Why) → (w ≡ ended → ⊥) → is_end w ≡ false
under-way-by full h = refl
under-way-by ended h = absurd (h refl)
under-way-by (refusal k) h = refl

-- a call's text, and then what is left of the listing
module _ (s : List ℕ) (at : Place) (out : List ℕ) where
  abbrev Goes : List ℕ → Outcome → Type 0
  Goes text o = (text ≡ said o ++ text_from s o.next) × (length (said o) ≡ o.written) × (0 < o.written)

  goes : (text : List ℕ) (next : Place) {whole : List ℕ} → whole ≡ text ++ text_from s next → 0 < length text → Goes whole (put text next out)
  goes text next e some =
      let same = take-append_seam text (drop (length text) out) in
      (e ∙ ap (λ (x : List ℕ). x ++ text_from s next) (sym same), ap length same, some)

  module _ (l : Lists) (q : accepted_of s ≡ good l) (room : 0 < room_in out) where
    abbrev n : ℕ
    n = at.functions

    abbrev c : Cursor
    c = at.cursor

    abbrev r : ℕ
    r = room_in out

    abbrev next : Place
    next = place_at (t s l n c r).next (m s l n c r) (is_end (t s l n c r).why)

    whole-goes : Dec ((t s l n c r).why ≡ ended) → Goes (text_at s n c l) (taken_block n (t s l n c r) out)
    unfolding taken_block
    whole-goes (yes e) =
        goes (text s l n c r) next
        (all_left s l n c r e ∙ sym (append-nil _) ∙ ap (λ (x : List ℕ). text s l n c r ++ x) (sym (at-the-end s next (ap is_end e)))) (some-text s l n c r room)
    whole-goes (no h) =
        goes (text s l n c r) next
        (front-left s l n c r h ∙ ap (λ (x : List ℕ). text s l n c r ++ x) (sym (under-way s next l (under-way-by (t s l n c r).why h) q))) (some-text s l n c r room)

  refused-goes : (k : ℕ) → Goes (refused_of k ++ end_of 0) (refused_block at out k)
  refused-goes k =
      let next : Place = place_at at.cursor at.functions true in
      goes (refused_of k ++ end_of 0) next
      (sym (append-nil _) ∙ ap (λ (x : List ℕ). (refused_of k ++ end_of 0) ++ x) (sym (at-the-end s next refl))) (simp length-append (omega (arith, some_end 0)))

  by-why : (w : Why) → Dec (w ≡ ended)
  by-why full = no (λ e. let z : ◌≡◌ {A = ℕ} 0 1 = cc in omega arith)
  by-why ended = yes refl
  by-why (refusal k) = no (λ e. let z : ◌≡◌ {A = ℕ} 0 1 = cc in omega arith)

  by-input : (a : Checked Lists) → accepted_of s ≡ a → 0 < room_in out
      → Goes (either (λ k. refused_of k ++ end_of 0) (text_at s at.functions at.cursor) a)
      (either (refused_block at out) (λ l. taken_block at.functions (taken_of s l (room_in out) at.cursor) out) a)
  by-input (good l) q room = whole-goes l q room (by-why (taken_of s l (room_in out) at.cursor).why)
  by-input (refused k) q room = refused-goes k

  -- where the end is not written and there is room for a line and the end, a call writes the front of what is left
  pub front-of-listing : at.ended ≡ false → 52 ≤ length out → Goes (text_from s at) (block_of s at out)
  unfolding text_from block_of
  front-of-listing e room = simp (e, le-ltb _ _ room) (by-input (accepted_of s) refl (omega arith))

  -- so what is left gets shorter by what was written
  module _ (e : at.ended ≡ false) (room : 52 ≤ length out) (b : Block) (text : List ℕ) (w : block_told b text ≡ block_of s at out) where
    pub shorter : length (text_from s at) ≡ b.written + length (text_from s b.next)
    shorter =
        let g = front-of-listing e room in
        rw (ap (λ (o : Outcome). o.next) w) (omega (arith, ap length g.0, length-append (said (block_of s at out)) (text_from s (block_of s at out).next), g.1, ap (λ (o : Outcome). o.written) w))

    pub something : 0 < b.written
    something = omega (arith, (front-of-listing e room).2, ap (λ (o : Outcome). o.written) w)

-- calls one after the other, each lent 52 bytes or more, until the end is written
pub data Writes (s : List ℕ) : Place → List ℕ → Type 0 where
  done : {at : Place} → at.ended ≡ true → Writes s at []
  then : {at : Place} {rest : List ℕ} (out : List ℕ) → at.ended ≡ false → 52 ≤ length out → Writes s (block_of s at out).next rest → Writes s at (said (block_of s at out) ++ rest)

pub writes-what-is-left : (s : List ℕ) {at : Place} {text : List ℕ} → Writes s at text → text ≡ text_from s at
writes-what-is-left s (done {at = at} e) = sym (at-the-end s at e)
writes-what-is-left s (then {at = at} out e room w) =
    ap (λ (x : List ℕ). said (block_of s at out) ++ x) (writes-what-is-left s w) ∙ sym (front-of-listing s at out e room).0

-- and they do come to the end, whatever 52 bytes or more each is lent
module _ (s out : List ℕ) (room : 52 ≤ length out) where
  by_place : (n : ℕ) (at : Place) (b : Bool) → at.ended ≡ b → length (text_from s at) < suc n
      → ((p : Place) → length (text_from s p) < n → (text : List ℕ) × Writes s p text) → (text : List ℕ) × Writes s at text
  by_place n at true e h later = ([], done e)
  by_place n at false e h later =
      let g = front-of-listing s at out e room in
      let next = (block_of s at out).next in
      let less : length (text_from s next) < n = omega (arith, ap length g.0, length-append (said (block_of s at out)) (text_from s next), g.1, g.2) in
      (_, then out e room (later next less).1)

  in_blocks : (n : ℕ) (at : Place) → length (text_from s at) < n → (text : List ℕ) × Writes s at text
  in_blocks zero at h = absurd (omega arith)
  in_blocks (suc n) at h = by_place n at at.ended refl h (in_blocks n)

  pub blocks_end : (at : Place) → (text : List ℕ) × Writes s at text
  blocks_end at = in_blocks (suc (length (text_from s at))) at (omega arith)

-- fewer answers than 2 ^ 48, so that the count of the functions is exact and the text's length fits
module _ (s : List ℕ) (bytes : Bytes s) where
  few-answers : (l : Lists) → accepted_of s ≡ good l → (c : Cursor) → length (answers_from s l c) ≤ 65536 * 65536
  few-answers l q c =
      let p = accepted-parses s l q in
      let pages = fits (12 * l.pages_len) s l.pages_offset (granted s l l (parsed s l p.0)).2 in
      omega (arith, p.1, no-more-than-left s l (calls-answer s l c), bounded s l bytes c)

  by-lists : (a : Checked Lists) → accepted_of s ≡ a
      → either (λ k. refused_of k ++ end_of 0) (text_at s 0 (cursor 0 0)) a ≡ either (λ k. refused_of k ++ end_of 0) (λ l. answers_text (iterated s l) ++ end_of (functions_in (iterated s l))) a
  unfolding text_at
  by-lists (refused k) q = refl
  by-lists (good l) q =
      let first : List (Checked Function) = answers_from s l (cursor 0 0) in
      let exact : counted 0 (functions_in first) ≡ functions_in first = omega (arith, functions-few first, few-answers l q (cursor 0 0)) in
      ap (λ (k : ℕ). answers_text first ++ end_of k) exact ∙ ap (λ (a : List (Checked Function)). answers_text a ++ end_of (functions_in a)) (from-the-first s l)

  -- from the start the whole listing is left
  pub all-from-the-start : text_from s start ≡ listing_of s
  unfolding text_from listing_of
  all-from-the-start = by-lists (accepted_of s) refl

  -- so calls from the start on, put together, write the listing
  pub writes-the-listing : {text : List ℕ} → Writes s start text → text ≡ listing_of s
  writes-the-listing w = writes-what-is-left s w ∙ all-from-the-start

-- a byte more than is listed is as good as the whole input: a program may stop reading there
module _ (t : List ℕ) where
  too-long-for-both : 65536 < length t → listing_of (take 65537 t) ≡ listing_of t
  unfolding listing_of
  too-long-for-both h = simp (sym (too_long (take 65537 t) (omega (arith, length-take 65537 t))), sym (too_long t h))

  by_length : Dec (65536 < length t) → listing_of (take 65537 t) ≡ listing_of t
  by_length (yes h) = too-long-for-both h
  by_length (no h) = ap listing_of (take_all 65537 t (omega arith))

  pub one-byte-more : listing_of (take 65537 t) ≡ listing_of t
  one-byte-more = by_length (dec_lt 65536 (length t))
