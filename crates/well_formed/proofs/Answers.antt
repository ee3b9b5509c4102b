-- docs/FORMAT.md, 0.2: on a well-formed section a lookup answers exactly the one iterated function that covers the address, or none; and the
-- iteration answers functions alone.
-- Assumes nothing.
use Prim.Native.Nat.{ℕ}
use mathlib.Core.Path.{◌≡◌, refl, ap, sym, ◌∙◌}
use mathlib.Core.Logic.{◌↔◌}
use mathlib.Core.List.{List, [], ◌∷◌, map, Memᴰ}
use native.Mathlib.Omega.{arith}
use Rattle.reader.specs.Reader.{Bytes}
use Rattle.raw.specs.Checked.{Checked, good, either}
use Rattle.raw.proofs.Grants.{parsed}
use Rattle.entries.specs.declared.Function.{Function}
use Rattle.iterate.specs.Iterate.{cursor, Iterates, iterated}
use Rattle.iterate.proofs.Iteration.{iterates, one_list}
use Rattle.iterate.proofs.Members.{Place, function, page, place}
use Rattle.lookup.specs.Lookup.{found, nothing, refusal, lookup_of, lookup_in, lookup_on, Covers}
use Rattle.lookup.proofs.One.{after-parse}
use Rattle.well_formed.specs.WellFormed.{WellFormed}
use Rattle.well_formed.proofs.Agree.{Outcome, covered, none, complete, sound, is-good, good-page}

-- a list of answers with no refusal is a list of functions
functions-of : (r : List (Checked Function)) → ((a : Checked Function) → Memᴰ a r → (f : Function) × (a ≡ good f)) → (fs : List Function) × (r ≡ map good fs)
functions-of [] h = ([], refl)
functions-of (a ∷ r) h =
    let f = h a (Memᴰ.head refl) in
    let g = functions-of r (λ b m. h b (Memᴰ.tail m)) in
    (f.0 ∷ g.0, cc (f.1, g.1))

-- the hypothesis `Bytes` costs nothing: every `&[u8]` meets it
module _ (s : List ℕ) (bytes : Bytes s) (w : WellFormed s) where
  -- the functions that are iterated
  abbrev pub Iterated : Function → Type 0
  Iterated f = Memᴰ (good f) (iterated s w.lists)

  -- a lookup over the bytes alone is the lookup over the lists
  looks_on : (pc : ℕ) → lookup_on s pc ≡ lookup_of s w.lists pc
  unfolding lookup_on
  looks_on pc = ap (either (λ k. refusal k 0) (λ m. lookup_of s m pc)) w.parses

  module _ (pc : ℕ) where
    outcome : Outcome s bytes w.lists pc (lookup_on s pc)
    outcome = rw (looks_on pc) (sound s bytes w.lists (parsed s w.lists w.parses) w.sound pc)

    -- an iterated function that covers the address is what the lookup answers
    pub answers : (f : Function) → Iterated f → Covers f pc → (probes : ℕ) × (lookup_on s pc ≡ found f probes)
    answers f m c =
        let a = complete s bytes w.lists (parsed s w.lists w.parses) w.sound pc f m c in
        (a.0, looks_on pc ∙ a.1)

    -- and what the lookup answers is such a function
    pub answered : (f : Function) (probes : ℕ) → lookup_on s pc ≡ found f probes → Iterated f × Covers f pc
    answered f probes e = by-outcome outcome
      where
        by-outcome : Outcome s bytes w.lists pc (lookup_on s pc) → Iterated f × Covers f pc
        by-outcome (covered g k m c q) =
            let same : g ≡ f = cc in
            (rw same at m, rw same at c)
        by-outcome (none k q) = absurd (let z : ◌≡◌ {A = ℕ} 0 1 = cc in omega arith)

    pub exactly : (f : Function) → ((probes : ℕ) × (lookup_on s pc ≡ found f probes)) ↔ (Iterated f × Covers f pc)
    exactly f = (λ a. answered f a.0 a.1, λ m. answers f m.0 m.1)

    -- no two iterated functions cover the address
    pub at_most_one : (f g : Function) → Iterated f → Covers f pc → Iterated g → Covers g pc → f ≡ g
    at_most_one f g m c n d =
        let a = answers f m c in
        let b = answers g n d in
        cc (a.1, b.1)

    -- where none does, the lookup says so
    pub otherwise : ((f : Function) → Iterated f → Covers f pc → ⊥) → (probes : ℕ) × (lookup_on s pc ≡ nothing probes)
    otherwise h = by-outcome outcome
      where
        by-outcome : Outcome s bytes w.lists pc (lookup_on s pc) → (probes : ℕ) × (lookup_on s pc ≡ nothing probes)
        by-outcome (covered g k m c q) = absurd (h g m c)
        by-outcome (none k q) = (k, q)

    pub refuses-nothing : (number probes : ℕ) → lookup_on s pc ≡ refusal number probes → ⊥
    refuses-nothing number probes e = by-outcome outcome
      where
        by-outcome : Outcome s bytes w.lists pc (lookup_on s pc) → ⊥
        by-outcome (covered g k m c q) = let z : ◌≡◌ {A = ℕ} 0 1 = cc in omega arith
        by-outcome (none k q) = let z : ◌≡◌ {A = ℕ} 0 1 = cc in omega arith

    -- the same over the bytes with the lists' places
    alike : lookup_in s w.lists pc ≡ lookup_on s pc
    alike = after-parse s w.lists w.parses pc

    pub exactly-in : (f : Function) → ((probes : ℕ) × (lookup_in s w.lists pc ≡ found f probes)) ↔ (Iterated f × Covers f pc)
    exactly-in f = rw alike (exactly f)

    pub otherwise-in : ((f : Function) → Iterated f → Covers f pc → ⊥) → (probes : ℕ) × (lookup_in s w.lists pc ≡ nothing probes)
    otherwise-in h = rw alike (otherwise h)

    pub refuses-nothing-in : (number probes : ℕ) → lookup_in s w.lists pc ≡ refusal number probes → ⊥
    refuses-nothing-in number probes e = refuses-nothing number probes (sym alike ∙ e)

  -- the iteration refuses nothing either
  pub iterates-functions : (a : Checked Function) → Memᴰ a (iterated s w.lists) → (f : Function) × (a ≡ good f)
  iterates-functions a m = by_place (place s w.lists a m)
    where
      by_place : Place s w.lists a → (f : Function) × (a ≡ good f)
      by_place (function p i pg h e t q) =
          let g = good-page s w.lists w.sound p pg (omega arith) e in
          let o = is-good s bytes w.lists p pg g i t in
          (_, q ∙ o.1)
      by_place (page p k h e q) =
          let g = w.sound.each p (omega arith) in
          let o = g.1.opens in
          absurd (let z : ◌≡◌ {A = ℕ} 0 1 = cc in omega arith)

  pub all-functions : (fs : List Function) × (iterated s w.lists ≡ map good fs)
  all-functions = functions-of _ iterates-functions

  -- the calls from the first cursor until the end answer exactly these functions, page after page
  pub calls-answer-functions : Iterates s w.lists (cursor 0 0) (map good all-functions.0)
  calls-answer-functions = rw (← all-functions.1) (iterates s w.lists)

  pub and-no-others : (r : List (Checked Function)) → Iterates s w.lists (cursor 0 0) r → r ≡ map good all-functions.0
  and-no-others r i = one_list s w.lists i calls-answer-functions
