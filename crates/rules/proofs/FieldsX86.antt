-- The fields of a frame-based word: the loop's tests and the definition's are the same, and are passed exactly by the sound words.
-- Assumes nothing.
use Prim.Native.Nat.{ℕ, zero, suc, pred, ◌+◌, ◌-◌, ◌*◌, ◌<◌, ◌≤◌}
use mathlib.Core.Path.{◌≡◌, refl, ap, sym, ◌∙◌}
use mathlib.Core.Logic.{◌⊎◌, inl, inr, ⊎_elim}
use mathlib.Core.Bool.{Bool, true, false, not, ◌&&◌, ◌||◌}
use mathlib.Core.List.{List, [], ◌∷◌}
use native.Mathlib.Omega.{arith}
use native.Mathlib.Nat.{zero-add, add-zero}
use native.Mathlib.Decide.{dec_lt}
use borrow.Author.Tests.{le-leb, lt-leb, lt-ltb, le-ltb, eq-eqb, ne_eqb, leb-true, ltb-true, not-true}
use lib.Dec.{leb, ltb, eqb}
use lib.ListN.{length, get_or, set, replicate, length-set, get_or-replicate}
use lib.Seq.{get_or-set_same, get_or-set_other}
use Rattle.permutation.specs.Permutation.{member}
use Rattle.permutation.proofs.Tests.{both_left, both_right}
use Rattle.permutation.proofs.Lists.{member-not, not-member}
use Rattle.opcodes.specs.Registers.{named_of}
use Rattle.frame.specs.Frame.{register, slot, distances}
use Rattle.frame.specs.Fields.{field_slots}
use Rattle.frame.proofs.Fielded.{Fields}
use Rattle.rules.specs.Answers.{numbered}
use Rattle.rules.specs.RulesX86.{refusal, field_sound, fields_sound, based}
use Rattle.rules.proofs.Fielding.{based_from}
use Rattle.rules.specs.SoundX86.{size_of, field_of, fields_from, fields_of, FrameBased}

-- the tests from field k on, the distances of those before it being ds
abbrev pub Passes : ℕ → ℕ → List ℕ → List ℕ → Type 0
Passes o k ds [] = Unit {0}
Passes o k ds (zero ∷ fs) = Passes o (suc k) ds fs
Passes o k ds (suc f ∷ fs) = (f < 5) × (8 * k < o) × (get_or ds f 0 ≡ 0) × Passes o (suc k) (set ds f (16 + o - 8 * k)) fs

-- passed, they give the distances of the fields' slots
pub passed : (o k : ℕ) (ds fs : List ℕ) → Passes o k ds fs
    → based_from o k ds fs ≡ record { refusal = numbered 0 0; anchor = register 5; distance = 16; return = slot 8; below = distances ds (field_slots 8 (16 + o - 8 * k) fs) }
passed o k ds [] p = refl
passed o k ds (zero ∷ fs) p =
    let e : 16 + o - 8 * k - 8 ≡ 16 + o - 8 * suc k = omega arith in
    rw e (passed o (suc k) ds fs p)
passed o k ds (suc f ∷ fs) p =
    let e : 16 + o - 8 * k - 8 ≡ 16 + o - 8 * suc k = omega arith in
    simp (lt-ltb f 5 p.0, lt-ltb (8 * k) o p.1, eq-eqb (get_or ds f 0) 0 p.2, e) (passed o (suc k) (set ds f (16 + o - 8 * k)) fs p.3)

-- or one of them fails, and the word is refused
pub either : (o k : ℕ) (ds fs : List ℕ) → Passes o k ds fs ⊎ (based_from o k ds fs ≡ refusal (numbered 24 0))
either o k ds [] = inl tt
either o k ds (zero ∷ fs) = either o (suc k) ds fs
either o k ds (suc f ∷ fs) = go (dec_lt f 5) (dec_lt (8 * k) o) (dec_lt 0 (get_or ds f 0)) (either o (suc k) (set ds f (16 + o - 8 * k)) fs)
  where
    go : Dec (f < 5) → Dec (8 * k < o) → Dec (0 < get_or ds f 0)
        → Passes o (suc k) (set ds f (16 + o - 8 * k)) fs ⊎ (based_from o (suc k) (set ds f (16 + o - 8 * k)) fs ≡ refusal (numbered 24 0))
        → Passes o k ds (suc f ∷ fs) ⊎ (based_from o k ds (suc f ∷ fs) ≡ refusal (numbered 24 0))
    go (no a) b c t = inr (simp (le-ltb f 5 (omega arith)))
    go (yes a) (no b) c t = inr (simp (lt-ltb f 5 a, le-ltb (8 * k) o (omega arith)))
    go (yes a) (yes b) (yes c) t = inr (simp (lt-ltb f 5 a, lt-ltb (8 * k) o b, ne_eqb (get_or ds f 0) 0 (omega arith)))
    go (yes a) (yes b) (no c) (inl t) = inl (a, b, omega arith, t)
    go (yes a) (yes b) (no c) (inr t) = inr (simp (lt-ltb f 5 a, lt-ltb (8 * k) o b, eq-eqb (get_or ds f 0) 0 (omega arith)) t)

-- The conditions of docs/FORMAT.md, 9.2, of fields from field k on, none of them named among those before
pub record Conditions (o k : ℕ) (ds fs : List ℕ) : Type 0 where
  pub named : (j : ℕ) → j < length fs → get_or fs j 0 ≤ 5
  pub inside : (j : ℕ) → j < length fs → (get_or fs j 0 ≡ 0 → ⊥) → 8 * (k + j) < o
  pub once : (i j : ℕ) → i < j → j < length fs → get_or fs i 0 ≡ get_or fs j 0 → get_or fs j 0 ≡ 0
  pub fresh : (j : ℕ) → j < length fs → (get_or fs j 0 ≡ 0 → ⊥) → get_or ds (pred (get_or fs j 0)) 0 ≡ 0

later : (k j : ℕ) → suc k + j ≡ k + suc j
later k j = omega arith

-- of the fields further on
rest_of : (o k : ℕ) (ds : List ℕ) (x : ℕ) (fs : List ℕ) → Conditions o k ds (x ∷ fs) → Conditions o (suc k) ds fs
rest_of o k ds x fs c =
    record {
      named = λ j l. c.named (suc j) (omega arith);
      inside = λ j l n. omega (arith, c.inside (suc j) (omega arith) n);
      once = λ i j l m. c.once (suc i) (suc j) (omega arith) (omega arith);
      fresh = λ j l. c.fresh (suc j) (omega arith);
    }

-- none of them being at a place either
placed : (o k : ℕ) (ds : List ℕ) (i d : ℕ) (fs : List ℕ) → Conditions o k ds fs → ((j : ℕ) → j < length fs → (get_or fs j 0 ≡ 0 → ⊥) → pred (get_or fs j 0) ≡ i → ⊥)
    → Conditions o k (set ds i d) fs
placed o k ds i d fs c p =
    record {
      named = c.named;
      inside = c.inside;
      once = c.once;
      fresh = λ j l n. get_or-set_other ds i (pred (get_or fs j 0)) d 0 (p j l n) ∙ c.fresh j l n;
    }

pub conditions-pass : (o k : ℕ) (ds fs : List ℕ) → Conditions o k ds fs → Passes o k ds fs
conditions-pass o k ds [] c = tt
conditions-pass o k ds (zero ∷ fs) c = conditions-pass o (suc k) ds fs (rest_of o k ds 0 fs c)
conditions-pass o k ds (suc f ∷ fs) c = (
  omega (arith, c.named 0 (omega arith)),
  omega (arith, c.inside 0 (omega arith) (λ z. omega arith)),
  c.fresh 0 (omega arith) (λ z. omega arith),
  conditions-pass o (suc k) (set ds f (16 + o - 8 * k)) fs
      (placed o (suc k) ds f (16 + o - 8 * k) fs (rest_of o k ds (suc f) fs c) (λ j l n e. n (c.once 0 (suc j) (omega arith) (omega arith) (omega arith)))),
)

-- conditions of the fields further on, and of the first
module _ (o k : ℕ) (ds : List ℕ) (x : ℕ) (fs : List ℕ) (first : x ≤ 5) (low : (x ≡ 0 → ⊥) → 8 * k < o) (free : (x ≡ 0 → ⊥) → get_or ds (pred x) 0 ≡ 0)
    (c : Conditions o (suc k) ds fs) (again : (j : ℕ) → j < length fs → x ≡ get_or fs j 0 → get_or fs j 0 ≡ 0) where
  named : (j : ℕ) → j < suc (length fs) → get_or (x ∷ fs) j 0 ≤ 5
  named zero l = first
  named (suc j) l = c.named j (omega arith)

  inside : (j : ℕ) → j < suc (length fs) → (get_or (x ∷ fs) j 0 ≡ 0 → ⊥) → 8 * (k + j) < o
  inside zero l n = omega (arith, low n)
  inside (suc j) l n = omega (arith, c.inside j (omega arith) n)

  once : (i j : ℕ) → i < j → j < suc (length fs) → get_or (x ∷ fs) i 0 ≡ get_or (x ∷ fs) j 0 → get_or (x ∷ fs) j 0 ≡ 0
  once i zero l m e = absurd (omega arith)
  once zero (suc j) l m e = again j (omega arith) e
  once (suc i) (suc j) l m e = c.once i j (omega arith) (omega arith) e

  fresh : (j : ℕ) → j < suc (length fs) → (get_or (x ∷ fs) j 0 ≡ 0 → ⊥) → get_or ds (pred (get_or (x ∷ fs) j 0)) 0 ≡ 0
  fresh zero l n = free n
  fresh (suc j) l n = c.fresh j (omega arith) n

  one_more : Conditions o k ds (x ∷ fs)
  one_more = record { named = named; inside = inside; once = once; fresh = fresh }

pub passes-conditions : (o k : ℕ) (ds fs : List ℕ) → length ds ≡ 6 → Passes o k ds fs → Conditions o k ds fs
passes-conditions o k ds [] six p =
    record { named = λ j l. absurd (omega arith); inside = λ j l n. absurd (omega arith); once = λ i j l m e. absurd (omega arith); fresh = λ j l n. absurd (omega arith) }
passes-conditions o k ds (zero ∷ fs) six p =
    one_more o k ds 0 fs (omega arith) (λ n. absurd (n refl)) (λ n. absurd (n refl)) (passes-conditions o (suc k) ds fs six p) (λ j l e. sym e)
passes-conditions o k ds (suc f ∷ fs) six p =
    let v : ℕ = 16 + o - 8 * k in
    let c = passes-conditions o (suc k) (set ds f v) fs (length-set ds f v ∙ six) p.3 in
    let there : get_or (set ds f v) f 0 ≡ v = get_or-set_same ds f v 0 (omega (arith, p.0)) in
    -- a later field that names f again finds its place taken
    let apart : (j : ℕ) → j < length fs → (get_or fs j 0 ≡ 0 → ⊥) → suc f ≡ get_or fs j 0 → ⊥ = λ j l n e.
    let z : get_or (set ds f v) f 0 ≡ 0 = ap (λ (i : ℕ). get_or (set ds f v) (pred i) 0) e ∙ c.fresh j l n in
    omega (arith, z, there, p.1) in
    one_more o k ds (suc f) fs p.0 (λ n. p.1) (λ n. p.2)
    (record {
      named = c.named;
      inside = c.inside;
      once = c.once;
      fresh = λ j l n. sym (get_or-set_other ds f (pred (get_or fs j 0)) v 0 (λ e. apart j l n (omega arith))) ∙ c.fresh j l n;
    })
    (λ j l e. absurd (apart j l (λ z. omega arith) e))

-- Of a word's five fields.

get_or-fields : (n k j w : ℕ) → j < n → get_or (fields_from n k w) j 0 ≡ field_of (k + j) w
get_or-fields zero k j w h = absurd (omega arith)
get_or-fields (suc n) k zero w h = ap (λ (i : ℕ). field_of i w) (sym (add-zero k))
get_or-fields (suc n) k (suc j) w h = get_or-fields n (suc k) j w (omega arith) ∙ ap (λ (i : ℕ). field_of i w) (later k j)

length_fields : (n k w : ℕ) → length (fields_from n k w) ≡ n
length_fields zero k w = refl
length_fields (suc n) k w = ap suc (length_fields n (suc k) w)

-- the distances before any field: rbp's
abbrev pub first : List ℕ
first = 0 ∷ 0 ∷ 0 ∷ 0 ∷ 0 ∷ 16 ∷ []

first-none : (x : ℕ) → x < 5 → get_or first x 0 ≡ 0
first-none x h = get_or-set_other (replicate 6 0) 5 x 16 0 (λ e. omega arith) ∙ get_or-replicate 6 x 0 0 (omega arith)

all_three : (x y z : Bool) → (x && y && z) ≡ true → (x ≡ true) × (y ≡ true) × (z ≡ true)
all_three true true z t = (refl, refl, t)
all_three true false z t = absurd (let q : ◌≡◌ {A = ℕ} 0 1 = cc in omega arith)
all_three false y z t = absurd (let q : ◌≡◌ {A = ℕ} 0 1 = cc in omega arith)

-- The test by the fields' numbers alone, as it was before the three cases were told apart: the same fields pass.
abbrev pub sound_by_numbers : ℕ → ℕ → List ℕ → Bool
sound_by_numbers o k [] = true
sound_by_numbers o k (f ∷ fs) = (eqb f 0 || (leb f 5 && ltb (8 * k) o && not (member f fs))) && sound_by_numbers o (suc k) fs

same-field : (o k f : ℕ) (fs : List ℕ) → field_sound o k (named_of f) fs ≡ (eqb f 0 || (leb f 5 && ltb (8 * k) o && not (member f fs)))
same-field o k zero fs = refl
same-field o k (suc f) fs = go (dec_lt f 6)
  where
    n0 : eqb (suc f) 0 ≡ false
    n0 = ne_eqb (suc f) 0 (λ z. omega arith)

    go : Dec (f < 6) → field_sound o k (named_of (suc f)) fs ≡ (eqb (suc f) 0 || (leb (suc f) 5 && ltb (8 * k) o && not (member (suc f) fs)))
    go (yes h) = simp (n0, le-leb (suc f) 6 (omega arith))
    go (no h) = simp (n0, lt-leb (suc f) 6 (omega arith), lt-leb (suc f) 5 (omega arith))

pub same-fields-sound : (o k : ℕ) (fs : List ℕ) → fields_sound o k fs ≡ sound_by_numbers o k fs
same-fields-sound o k [] = refl
same-fields-sound o k (f ∷ fs) = rw (same-field o k f fs, same-fields-sound o (suc k) fs) refl

-- It is passed exactly under these conditions.
sound-conditions : (o k : ℕ) (fs : List ℕ) → sound_by_numbers o k fs ≡ true → Conditions o k first fs
sound-conditions o k [] t =
    record { named = λ j l. absurd (omega arith); inside = λ j l n. absurd (omega arith); once = λ i j l m e. absurd (omega arith); fresh = λ j l n. absurd (omega arith) }
sound-conditions o k (zero ∷ fs) t =
    one_more o k first 0 fs (omega arith) (λ n. absurd (n refl)) (λ n. absurd (n refl)) (sound-conditions o (suc k) fs t) (λ j l e. sym e)
sound-conditions o k (suc f ∷ fs) t =
    let a : (leb (suc f) 5 && ltb (8 * k) o && not (member (suc f) fs)) ≡ true =
    simp (ne_eqb (suc f) 0 (λ z. omega arith)) at (both_left (eqb (suc f) 0 || (leb (suc f) 5 && ltb (8 * k) o && not (member (suc f) fs))) (sound_by_numbers o (suc k) fs) t) in
    let b = both_right (eqb (suc f) 0 || (leb (suc f) 5 && ltb (8 * k) o && not (member (suc f) fs))) (sound_by_numbers o (suc k) fs) t in
    let p = all_three (leb (suc f) 5) (ltb (8 * k) o) (not (member (suc f) fs)) a in
    let h : suc f ≤ 5 = leb-true (suc f) 5 p.0 in
    one_more o k first (suc f) fs h (λ n. ltb-true (8 * k) o p.1) (λ n. first-none f (omega arith)) (sound-conditions o (suc k) fs b)
    (λ j l e. absurd (member-not (suc f) fs (not-true (member (suc f) fs) p.2) j l e))

conditions-sound : (o k : ℕ) (ds fs : List ℕ) → Conditions o k ds fs → sound_by_numbers o k fs ≡ true
conditions-sound o k ds [] c = refl
conditions-sound o k ds (zero ∷ fs) c = conditions-sound o (suc k) ds fs (rest_of o k ds 0 fs c)
conditions-sound o k ds (suc f ∷ fs) c =
    simp (
      ne_eqb (suc f) 0 (λ z. omega arith),
      le-leb (suc f) 5 (c.named 0 (omega arith)),
      lt-ltb (8 * k) o (omega (arith, c.inside 0 (omega arith) (λ z. omega arith))),
      not-member (suc f) fs (λ j l e. let z = c.once 0 (suc j) (omega arith) (omega arith) e in omega (arith, z, e)),
    )
    (conditions-sound o (suc k) ds fs (rest_of o k ds (suc f) fs c))

-- so the loop answers what the definition says
pub loop-is : (o : ℕ) (fs : List ℕ) → based_from o 0 first fs ≡ based o fs
loop-is o fs = go (fields_sound o 0 fs) refl
  where
    go : (b : Bool) → fields_sound o 0 fs ≡ b → based_from o 0 first fs ≡ based o fs
    go true t =
        let e : 16 + o - 8 * 0 ≡ 16 + o = omega arith in
        (rw e at (passed o 0 first fs (conditions-pass o 0 first fs (sound-conditions o 0 fs (sym (same-fields-sound o 0 fs) ∙ t))))) ∙ simp t
    go false t = ⊎_elim
        (λ p. absurd (let z : ◌≡◌ {A = Bool} true false = sym (same-fields-sound o 0 fs ∙ conditions-sound o 0 first fs (passes-conditions o 0 first fs refl p)) ∙ t in let q : ◌≡◌ {A = ℕ} 0 1 = cc in omega arith))
        (λ e. e ∙ simp t)
        (either o 0 first fs)

module _ (w : ℕ) where
  at : (j : ℕ) → j < 5 → get_or (fields_of w) j 0 ≡ field_of j w
  at j h = get_or-fields 5 0 j w h ∙ ap (λ (i : ℕ). field_of i w) (zero-add j)

  conditions : FrameBased w → Conditions (size_of w) 0 first (fields_of w)
  conditions s =
      record {
        named = λ j l. rw (at j l) (s.named j l);
        inside = λ j l n. omega (arith, s.inside j l (λ z. n (at j l ∙ z)));
        once = λ i j l m e. at j m ∙ s.once i j l m (sym (at i (omega arith)) ∙ e ∙ at j m);
        fresh = λ j l n. first-none (pred (get_or (fields_of w) j 0)) (omega (arith, at j l, s.named j l));
      }

  -- the test is passed exactly by the sound words
  pub sound-tested : FrameBased w → fields_sound (size_of w) 0 (fields_of w) ≡ true
  sound-tested s = same-fields-sound (size_of w) 0 (fields_of w) ∙ conditions-sound (size_of w) 0 first (fields_of w) (conditions s)

  pub tested-sound : fields_sound (size_of w) 0 (fields_of w) ≡ true → FrameBased w
  tested-sound t =
      let c = sound-conditions (size_of w) 0 (fields_of w) (sym (same-fields-sound (size_of w) 0 (fields_of w)) ∙ t) in
      record {
        named = λ k h. rw (at k h) at (c.named k h);
        once = λ j k l h e. sym (at k h) ∙ c.once j k l h (at j (omega arith) ∙ e ∙ sym (at k h));
        inside = λ k h n. omega (arith, c.inside k h (λ z. n (sym (at k h) ∙ z)));
      }

  -- and so are the loop's
  pub sound-passes : FrameBased w → Passes (size_of w) 0 first (fields_of w)
  sound-passes s = conditions-pass (size_of w) 0 first (fields_of w) (conditions s)

-- where they pass, each slot lies below the frame pointer's: the offset is a multiple of 8
pub passes-fields : (b k : ℕ) (ds fs : List ℕ) → Passes (8 * b) k ds fs → Fields 8 5 (16 + 8 * b - 8 * k) fs
passes-fields b k ds [] p = tt
passes-fields b k ds (zero ∷ fs) p =
    let e : 16 + 8 * b - 8 * k - 8 ≡ 16 + 8 * b - 8 * suc k = omega arith in
    rw e (passes-fields b (suc k) ds fs p)
passes-fields b k ds (suc f ∷ fs) p =
    let e : 16 + 8 * b - 8 * k - 8 ≡ 16 + 8 * b - 8 * suc k = omega arith in
    (p.0, omega (arith, p.1), rw e (passes-fields b (suc k) (set ds f (16 + 8 * b - 8 * k)) fs p.3))
