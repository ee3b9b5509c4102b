-- A block on its way: function after function, page after page, and where it stops.
-- Assumes nothing.
use Prim.Native.Nat.{ℕ, zero, suc, ◌+◌, ◌-◌, ◌/◌, ◌≤◌, ◌<◌, zero-le}
use mathlib.Core.Path.{◌≡◌, refl, ap, sym, ◌∙◌}
use mathlib.Core.List.{List, [], ◌∷◌, ◌++◌, append-nil, append_assoc}
use native.Mathlib.Nat.{sub-zero}
use native.Mathlib.Omega.{arith}
use lib.ListN.{length, length-append}
use Rattle.std.specs.Prelude.{Result, Ok}
use Rattle.reader.specs.Reader.{Slice, slice_told}
use Rattle.raw.specs.declared.Lists.{Lists}
use Rattle.raw.specs.declared.Page.{Page}
use Rattle.raw.specs.declared.Error.{Error}
use Rattle.raw.specs.Checked.{Checked, good, refused, number_of}
use Rattle.entries.specs.declared.Function.{Function}
use Rattle.entries.specs.Section.{opened_at, function_at}
use Rattle.iterate.specs.declared.Cursor.{Cursor}
use Rattle.iterate.specs.Iterate.{cursor, end_cursor}
use Rattle.iterate.proofs.Iteration.{at-end, page-refused, page-function, page-past}
use Rattle.fill.specs.declared.Filled.{Filled}
use Rattle.fill.specs.declared.Stop.{Stop}
use Rattle.fill.specs.Fill.{Why, full, ended, refusal, Taken, after, stopping, taken_of, numbers_of, written_over, Outcome, outcome, fill_of, why_of, filled, filled_told}
use Rattle.fill.specs.declared.Paged.{Paged}
use Rattle.entries.specs.declared.PageAt.{PageAt}
use Rattle.entries.specs.Placed.{read_of}
use Rattle.fill.specs.Block.{put_of, Wrote, none, more, Stops, PageFilled, OnWay}
use Rattle.fill.proofs.Writing.{length-written, put_next}
use Rattle.iterate.specs.Opened.{Opened, opens, opened_told}
use Rattle.iterate.proofs.Opened.{is-opened, function-there}

-- the calls from a cursor on, where there is room
module _ (s : List ℕ) (l : Lists) where
  pub no_room : (room : ℕ) (c : Cursor) → room ≡ 0 → taken_of s l room c ≡ stopping c full
  unfolding taken_of
  no_room room c e = rw e refl

  -- before the last page, or at it
  pub at_last : (room p i : ℕ) (d : Cursor) → 0 < room → l.pages_len ≤ p + 1 → d ≡ end_cursor l → taken_of s l room (cursor p i) ≡ stopping d ended
  unfolding taken_of
  at_last zero p i d h t e = absurd (omega arith)
  at_last (suc room) p i d h t e = simp (at-end s l p i t, e)

  pub page-no : (room p i k : ℕ) → 0 < room → p + 1 < l.pages_len → opened_at s l p ≡ refused k → taken_of s l room (cursor p i) ≡ stopping (cursor (p + 1) 0) (refusal k)
  unfolding taken_of
  page-no zero p i k h t e = absurd (omega arith)
  page-no (suc room) p i k h t e = simp (page-refused s l p i k t e)

  -- in a page that was opened
  module _ (p : ℕ) (pg : Page) (h : p + 1 < l.pages_len) (o : opened_at s l p ≡ good pg) where
    one-good : (room i : ℕ) (x : Function) → 0 < room → i < pg.functions_len → function_at s l p pg i ≡ good x → taken_of s l room (cursor p i) ≡ after (x ∷ []) (taken_of s l (room - 1) (cursor p (i + 1)))
    unfolding taken_of
    one-good zero i x r t e = absurd (omega arith)
    one-good (suc room) i x r t e =
        let q : suc room - 1 ≡ room = omega arith in
        simp (page-function s l p i pg h o t, e, q)

    pub one-refused : (room i k : ℕ) → 0 < room → i < pg.functions_len → function_at s l p pg i ≡ refused k → taken_of s l room (cursor p i) ≡ stopping (cursor p (i + 1)) (refusal k)
    unfolding taken_of
    one-refused zero i k r t e = absurd (omega arith)
    one-refused (suc room) i k r t e = simp (page-function s l p i pg h o t, e)

    pub page-over : (room i : ℕ) → 0 < room → pg.functions_len ≤ i → taken_of s l room (cursor p i) ≡ taken_of s l room (cursor (p + 1) 0)
    unfolding taken_of
    page-over zero i r t = absurd (omega arith)
    page-over (suc room) i r t = simp (page-past s l p i pg h o t)

abbrev left : List ℕ → ℕ → ℕ
left out₀ k = length out₀ / 3 - k

pub sets-out : (s : List ℕ) (l : Lists) (c : Cursor) (out : List ℕ) → OnWay s l c out 0 c.page c.index out
unfolding written_over numbers_of
sets-out s l c out = record { so_far = []; count = refl; room = zero-le; rest = ap (λ (m : ℕ). taken_of s l m c) (sym (sub-zero (length out / 3))); list = refl }

module _ {s : List ℕ} {l : Lists} {c₀ : Cursor} {out₀ out : List ℕ} {k p i : ℕ} (inv : OnWay s l c₀ out₀ k p i out) where
  pub same_length : length out ≡ length out₀
  same_length = rw inv.list (length-written inv.so_far out₀ (omega (arith, inv.count, inv.room)))

  -- no more
  pub stops : {d : Cursor} {w : Why} → taken_of s l (left out₀ k) (cursor p i) ≡ stopping d w
      → ◌≡◌ {A = Outcome} (record { functions = k; next = d; why = w; list = out }) (fill_of s l c₀ out₀)
  unfolding fill_of
  stops {d} {w} e =
      let whole : taken_of s l (length out₀ / 3) c₀ ≡ after inv.so_far (stopping d w) = inv.rest ∙ ap (after inv.so_far) e in
      sym (ap (λ (t : Taken). outcome t out₀) whole
      ∙ ap {B = Outcome} (λ (fs : List Function). record { functions = length fs; next = d; why = w; list = written_over fs out₀ }) (append-nil inv.so_far)
      ∙ ap {B = Outcome} (λ (j : ℕ). record { functions = j; next = d; why = w; list = written_over inv.so_far out₀ }) inv.count
      ∙ ap {B = Outcome} (λ (r : List ℕ). record { functions = k; next = d; why = w; list = r }) (sym inv.list))

  -- the same from another cursor on
  moves : (p' i' : ℕ) → taken_of s l (left out₀ k) (cursor p i) ≡ taken_of s l (left out₀ k) (cursor p' i') → OnWay s l c₀ out₀ k p' i' out
  moves p' i' e = record { so_far = inv.so_far; count = inv.count; room = inv.room; rest = inv.rest ∙ ap (after inv.so_far) e; list = inv.list }

  -- a function more
  one_more : (x : Function) → k < length out₀ / 3 → taken_of s l (left out₀ k) (cursor p i) ≡ after (x ∷ []) (taken_of s l (left out₀ k - 1) (cursor p (i + 1))) → OnWay s l c₀ out₀ (k + 1) p (i + 1) (put_of out k x)
  one_more x h e =
      let fewer : left out₀ k - 1 ≡ left out₀ (k + 1) = omega arith in
      let later = taken_of s l (left out₀ k - 1) (cursor p (i + 1)) in
      record {
        so_far = inv.so_far ++ (x ∷ []);
        count = length-append inv.so_far (x ∷ []) ∙ ap (λ (m : ℕ). m + 1) inv.count;
        room = omega arith;
        rest =
            inv.rest ∙ ap (after inv.so_far) e
            ∙ ap {B = Taken} (λ (fs : List Function). record { written = fs; next = later.next; why = later.why }) (sym (append_assoc inv.so_far (x ∷ []) later.written))
            ∙ ap (λ (m : ℕ). after (inv.so_far ++ (x ∷ [])) (taken_of s l m (cursor p (i + 1)))) fewer;
        list = ap (λ (r : List ℕ). put_of r k x) inv.list ∙ put_next inv.so_far out₀ k inv.count (omega arith) x;
      }

-- what was written of a page
module _ {s : List ℕ} {l : Lists} {p : ℕ} {pg : Page} (h : p + 1 < l.pages_len) (o : opened_at s l p ≡ good pg) (f : ℕ → Checked Function) (same : (i : ℕ) → i < pg.functions_len → f i ≡ function_at s l p pg i) where
  goes_on : {c₀ : Cursor} {out₀ out : List ℕ} {k i : ℕ} {out' : List ℕ} {k' i' : ℕ} → OnWay s l c₀ out₀ k p i out → Wrote f pg.functions_len k i out k' i' out' → k' ≤ length out₀ / 3 → OnWay s l c₀ out₀ k' p i' out'
  goes_on inv none t = inv
  goes_on inv (more {k = j} {i = m} {x = x} w u e) t =
      one_more (goes_on inv w (omega arith)) x (omega arith) (one-good s l p pg h o _ m x (omega arith) u (sym (same m u) ∙ e))

-- after a page was opened and its functions were written
module _ (z : Slice) {l : Lists} {c₀ : Cursor} {out₀ out out' : List ℕ} {k p i : ℕ} {w : Result PageAt Error} {x : PageAt} {r : Paged} (inv : OnWay z.bytes l c₀ out₀ k p i out)
    (h : p + 1 < l.pages_len) (ew : opened_told w ≡ opens z l p) (e : w ≡ Ok x)
    (f : PageFilled (read_of x.section.now x.globals.now x.place) x.place.page.functions_len k i out r out') where
  abbrev s : List ℕ
  s = z.bytes

  abbrev pg : Page
  pg = x.place.page

  abbrev read : ℕ → Checked Function
  read = read_of x.section.now x.globals.now x.place

  abbrev page : Opened
  page = record { section = slice_told x.section; globals = slice_told x.globals; place = x.place }

  is : good page ≡ opens z l p
  is = ap opened_told (sym e) ∙ ew

  opened : opened_at s l p ≡ good pg
  opened = is-opened z l p page is

  same : (j : ℕ) → j < pg.functions_len → read j ≡ function_at s l p pg j
  same j t = function-there z l p page is j t

  room-is : length out / 3 ≡ length out₀ / 3
  room-is = ap (λ (n : ℕ). n / 3) (same_length inv)

  on : OnWay s l c₀ out₀ r.functions p f.at out'
  on =
      goes_on h opened read same inv f.wrote
      (omega (arith, f.room, room-is))

  -- the page's end leaves room
  pub page-room : r.stop ≡ Stop.End → r.functions < length out₀ / 3
  page-room t =
      let why : Stops read pg.functions_len (length out / 3) r.functions f.at r.index Stop.End = rw t at f.why in
      omega (arith, why.0, room-is)

  pub page-ends : r.stop ≡ Stop.End → OnWay s l c₀ out₀ r.functions (p + 1) 0 out'
  page-ends t =
      let why : Stops read pg.functions_len (length out / 3) r.functions f.at r.index Stop.End = rw t at f.why in
      moves on (p + 1) 0 (page-over s l p pg h opened _ f.at (omega (arith, why.0, room-is)) (omega (arith, why.1)))

  abbrev told : Why → Outcome
  told v = record { functions = r.functions; next = cursor p r.index; why = v; list = out' }

  pub page-stops : (r.stop ≡ Stop.End → ⊥) → told (why_of r.stop) ≡ fill_of s l c₀ out₀
  page-stops t = by-why r.stop f.why t
    where
      stops_at : (j : ℕ) (v : Why) → r.index ≡ j → taken_of s l (length out₀ / 3 - r.functions) (cursor p f.at) ≡ stopping (cursor p j) v → told v ≡ fill_of s l c₀ out₀
      stops_at j v ej et =
          ap {B = Outcome} (λ (m : ℕ). record { functions = r.functions; next = cursor p m; why = v; list = out' }) ej ∙ stops on et

      by-why : (v : Stop) → Stops read pg.functions_len (length out / 3) r.functions f.at r.index v → (v ≡ Stop.End → ⊥) → told (why_of v) ≡ fill_of s l c₀ out₀
      by-why Stop.Full d u = stops_at f.at full d.1 (no_room s l _ _ (omega (arith, d.0, room-is)))
      by-why Stop.End d u = absurd (u refl)
      by-why (Stop.Refused error) d u =
          let there : f.at < pg.functions_len = omega (arith, d.1) in
          stops_at (f.at + 1) (refusal (number_of error)) d.3
          (one-refused s l p pg h opened _ f.at (number_of error) (omega (arith, d.0, room-is)) there (sym (same f.at there) ∙ d.2))

-- what a stop tells
pub told_is : {r : Filled} {n page index : ℕ} {stop : Stop} {list : List ℕ} → r ≡ filled n page index stop
    → filled_told r list ≡ record { functions = n; next = cursor page index; why = why_of stop; list = list }
told_is {list = list} e = ap (λ (x : Filled). filled_told x list) e
