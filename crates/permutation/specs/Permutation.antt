-- docs/FORMAT.md, 8.1 to 8.3: the permutation field of a frameless word, read and written.
-- Assumes nothing.
use Rattle.std.specs.Prelude.{ℕ, zero, suc, ◌+◌, ◌-◌, ◌*◌, ◌/◌, ◌%◌, List, [], ◌∷◌, ◌++◌, Bool, true, false, cond, not, ◌&&◌, ◌||◌, Result, Ok, Err, get_or, take, drop, replicate, leb, ltb, eqb}
use Rattle.permutation.specs.declared.Error.{Error}

-- 8.1. The weights stand as one row of six for each count, filled up with zeros.
unfoldable pub rows : List (List ℕ)
rows =
    (0 ∷ 0 ∷ 0 ∷ 0 ∷ 0 ∷ 0 ∷ [])
    ∷ (1 ∷ 0 ∷ 0 ∷ 0 ∷ 0 ∷ 0 ∷ [])
    ∷ (5 ∷ 1 ∷ 0 ∷ 0 ∷ 0 ∷ 0 ∷ [])
    ∷ (20 ∷ 4 ∷ 1 ∷ 0 ∷ 0 ∷ 0 ∷ [])
    ∷ (60 ∷ 12 ∷ 3 ∷ 1 ∷ 0 ∷ 0 ∷ [])
    ∷ (120 ∷ 24 ∷ 6 ∷ 2 ∷ 1 ∷ 0 ∷ [])
    ∷ (120 ∷ 24 ∷ 6 ∷ 2 ∷ 1 ∷ 0 ∷ [])
    ∷ []

-- The first refused encodings for counts 1 to 6. Count 0 refuses none: its entry is never looked at.
unfoldable pub bounds : List ℕ
bounds = 0 ∷ 6 ∷ 30 ∷ 120 ∷ 360 ∷ 720 ∷ 720 ∷ []

-- The weights of the digits of n registers.
abbrev pub weights : ℕ → List ℕ
weights n = take n (get_or rows n [])

-- 8.2. The digits of a number: how often each weight goes into what the weights before it leave. Where the weight is 0 nothing is left, and
-- the digit is 0 (here x / 0 is 0 and x % 0 is x).
abbrev pub digits : List ℕ → ℕ → List ℕ
digits [] e = []
digits (w ∷ ws) e = e / w ∷ digits ws (e % w)

-- The digits' weighted sum.
abbrev pub weighted : List ℕ → List ℕ → ℕ
weighted [] ds = 0
weighted (w ∷ ws) [] = 0
weighted (w ∷ ws) (d ∷ ds) = w * d + weighted ws ds

-- The registers' numbers, all unused at first.
abbrev pub named : List ℕ
named = 1 ∷ 2 ∷ 3 ∷ 4 ∷ 5 ∷ 6 ∷ []

-- A list without its d-th element, counted from 0.
abbrev pub without : List ℕ → ℕ → List ℕ
without [] d = []
without (x ∷ xs) zero = xs
without (x ∷ xs) (suc d) = x ∷ without xs d

-- For each digit d the d-th unused register, which is then used.
abbrev pub chosen : List ℕ → List ℕ → List ℕ
chosen unused [] = []
chosen unused (d ∷ ds) = get_or unused d 0 ∷ chosen (without unused d) ds

-- How many elements stand before x.
abbrev pub before : List ℕ → ℕ → ℕ
before [] x = 0
before (y ∷ ys) x = cond (eqb x y) 0 (suc (before ys x))

-- 8.3. For each register the digit that counts down to it among the unused ones.
abbrev pub ranks : List ℕ → List ℕ → List ℕ
ranks unused [] = []
ranks unused (x ∷ xs) = before unused x ∷ ranks (without unused (before unused x)) xs

abbrev pub member : ℕ → List ℕ → Bool
member x [] = false
member x (y ∷ ys) = eqb x y || member x ys

abbrev pub every : (ℕ → Bool) → List ℕ → Bool
every f [] = true
every f (x ∷ xs) = f x && every f xs

abbrev pub distinct : List ℕ → Bool
distinct [] = true
distinct (x ∷ xs) = not (member x xs) && distinct xs

-- What the decoder tells: six registers, or the refusal's number with the places as they are handed back.
pub data Told : Type 0 where
  accepted : List ℕ → Told
  refused : ℕ → List ℕ → Told

-- Counts above 6 are refused, and encodings from the bound on.
abbrev pub accepts : ℕ → ℕ → Bool
accepts n e = leb n 6 && (eqb n 0 || ltb e (get_or bounds n 0))

-- Places from the count on are 0.
abbrev pub registers_of : ℕ → ℕ → List ℕ
registers_of n e = chosen named (digits (weights n) e) ++ replicate (6 - n) 0

unfoldable pub decode_of : ℕ → ℕ → Told
decode_of n e = cond (accepts n e) (accepted (registers_of n e)) (refused 23 (replicate 6 0))

-- 8.3. What the encoder tells.
pub data Written : Type 0 where
  encoding : ℕ → Written
  refused : ℕ → Written

-- As many distinct numbers from 1 to 6 as the count, then zeros.
abbrev pub listed : ℕ → List ℕ → Bool
listed n xs = every (λ (x : ℕ). member x named) (take n xs) && distinct (take n xs) && every (eqb 0) (drop n xs)

abbrev pub encoding_of : ℕ → List ℕ → ℕ
encoding_of n xs = weighted (weights n) (ranks named (take n xs))

unfoldable pub encode_of : ℕ → List ℕ → Written
encode_of n xs = cond (leb n 6 && listed n xs) (encoding (encoding_of n xs)) (refused 28)

-- The number of each refusal.
abbrev pub number_of : Error → ℕ
number_of Error.Encoding = 23
number_of Error.List = 28

-- A refused permutation is told with six places of 0.
abbrev pub told : Result (List ℕ) Error → Told
told (Ok xs) = accepted xs
told (Err e) = refused (number_of e) (replicate 6 0)

abbrev pub told_encoded : Result ℕ Error → Written
told_encoded (Ok e) = encoding e
told_encoded (Err e) = refused (number_of e)
