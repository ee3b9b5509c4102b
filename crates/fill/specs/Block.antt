-- For the contracts of helpers: a block on its way (docs/FORMAT.md, 5.4), which functions stand in the list, and what is still to come.
-- Assumes nothing.
use Rattle.std.specs.Prelude.{ℕ, ◌+◌, ◌-◌, ◌*◌, ◌/◌, ◌≤◌, ◌<◌, min, ◌≡◌, List, length, set}
use Rattle.raw.specs.declared.Lists.{Lists}
use Rattle.raw.specs.Checked.{Checked, good, refused, number_of}
use Rattle.entries.specs.declared.Function.{Function}
use Rattle.iterate.specs.Iterate.{cursor}
use Rattle.iterate.specs.declared.Cursor.{Cursor}
use Rattle.fill.specs.declared.Paged.{Paged}
use Rattle.fill.specs.declared.Stop.{Stop}
use Rattle.fill.specs.Fill.{after, taken_of, written_over}

-- a function written as the k-th of the list
unfoldable pub put_of : List ℕ → ℕ → Function → List ℕ
put_of out k f = set (set (set out (3 * k) f.start_address) (3 * k + 1) f.end_address) (3 * k + 2) f.opcode

-- f i₀, f (i₀ + 1), .. of the n functions of a page were written, the first as the k₀-th; k and i come next
pub data Wrote (f : ℕ → Checked Function) (n k₀ i₀ : ℕ) (out₀ : List ℕ) : ℕ → ℕ → List ℕ → Type 0 where
  none : Wrote f n k₀ i₀ out₀ k₀ i₀ out₀
  more : {k i : ℕ} {out : List ℕ} {x : Function} → Wrote f n k₀ i₀ out₀ k i out → i < n → f i ≡ good x → Wrote f n k₀ i₀ out₀ (k + 1) (i + 1) (put_of out k x)

-- why a page gives no more, before its function `at`, and the index that comes next
abbrev pub Stops : (ℕ → Checked Function) → (n room k at index : ℕ) → Stop → Type 0
Stops f n room k at index Stop.Full = (room ≤ k) × (index ≡ at)
Stops f n room k at index Stop.End = (k < room) × (n ≤ at)
Stops f n room k at index (Stop.Refused e) = (k < room) × (at < n) × (f at ≡ refused (number_of e)) × (index ≡ at + 1)

pub record PageFilled (f : ℕ → Checked Function) (n k₀ i₀ : ℕ) (out₀ : List ℕ) (r : Paged) (out : List ℕ) : Type 0 where
  pub at : ℕ
  pub wrote : Wrote f n k₀ i₀ out₀ r.functions at out
  pub room : r.functions ≤ length out₀ / 3
  pub index : r.index < 4294967296
  pub why : Stops f n (length out₀ / 3) r.functions at r.index r.stop

-- in a page, before function i; the loop ends at `stop`
pub record InPage (f : ℕ → Checked Function) (n k₀ i₀ : ℕ) (out₀ : List ℕ) (stop k i : ℕ) (out : List ℕ) : Type 0 where
  pub wrote : Wrote f n k₀ i₀ out₀ k i out
  pub turns : stop ≡ min n (i + (length out₀ / 3 - k))
  pub room : k ≤ length out₀ / 3
  pub index : i < 4294967296
  pub few : n < 4294967296

-- k functions of the section stand in the list
pub record OnWay (s : List ℕ) (l : Lists) (c₀ : Cursor) (out₀ : List ℕ) (k p i : ℕ) (out : List ℕ) : Type 0 where
  pub so_far : List Function
  pub count : length so_far ≡ k
  pub room : k ≤ length out₀ / 3
  pub rest : taken_of s l (length out₀ / 3) c₀ ≡ after so_far (taken_of s l (length out₀ / 3 - k) (cursor p i))
  pub list : out ≡ written_over so_far out₀
