-- What read_stl answers, and what it leaves in the two lent lists, on every input: 02 §4. 'A reader lists 9T corner floats and 3T normal floats in lent
-- buffers ..' The bytes of a file are facets/specs/Facets.
use Rattle.std.specs.Prelude.{ℕ, ◌+◌, ◌*◌, ◌<◌, ◌≤◌, ◌⊎◌, ◌≡◌, List, [], ◌∷◌, Bool, cond, not, ◌||◌, length, get_or, eqb, ltb, Float, Err, Ok, Result}
use Rattle.lists.specs.Put.{put}
use Rattle.job.specs.Refusals.{size_numbers}
use Rattle.job.specs.declared.Refusal.{Refusal}
use Rattle.job.specs.declared.Refusal.TheVariants.{NoStlRoom, NotStl}
use Rattle.facets.specs.Facets.{stl_size, count_in, facet_place, listed_corners, listed_normals}

-- the lent lists: what they hold
pub record Lists : Type 0 where
  pub corners : List Float
  pub normals : List Float

abbrev pub lists : List Float → List Float → Lists
lists c n = record { corners = c; normals = n }

-- '19 size not 84 + 50T', T being the file's own count. Under 84 bytes there is none, and no such size either
unfoldable pub is_stl : List ℕ → Bool
is_stl s = eqb (length s) (stl_size (count_in s))

-- '9T corner floats and 3T normal floats': lists of these lengths have fewer places
unfoldable pub few_places : ℕ → ℕ → ℕ → Bool
few_places t corners normals = ltb corners (9 * t) || ltb normals (3 * t)

-- THE answer, of a file's bytes and of the lists' lengths: 'the reader gives 19 .., then 18, with T'
unfoldable pub list_answer : List ℕ → ℕ → ℕ → Result ℕ Refusal
list_answer s corners normals =
    cond (not (is_stl s)) (Err NotStl)
    (cond (few_places (count_in s) corners normals) (Err (NoStlRoom (count_in s)))
    (Ok (count_in s)))

abbrev pub answer_for : List ℕ → Lists → Result ℕ Refusal
answer_for s l = list_answer s (length l.corners) (length l.normals)

-- 'No output buffer changes under a refusal'; 'Places past what a call writes stay as they were'
abbrev pub list_by : Result ℕ Refusal → List ℕ → Lists → Lists
list_by (Err r) s l = l
list_by (Ok t) s l = lists (put l.corners 0 (listed_corners s t)) (put l.normals 0 (listed_normals s t))

-- THE final contents of the lists, which held l
unfoldable pub lists_after : List ℕ → Lists → Lists
lists_after s l = list_by (answer_for s l) s l

-- ---- what the theorems say of the lists: room for t facets, '9T corner floats and 3T normal floats', and too little
pub record ListRoom (t : ℕ) (l : Lists) : Type 0 where
  pub corners : 9 * t ≤ length l.corners
  pub normals : 3 * t ≤ length l.normals

abbrev pub ListShort : ℕ → Lists → Type 0
ListShort t l = (length l.corners < 9 * t) ⊎ (length l.normals < 3 * t)

-- 'the reader skips header and u16': two files that differ in nothing else. They are as long, and have the same count and the same first 48 bytes of each facet
pub record SameFacets (s s₂ : List ℕ) : Type 0 where
  pub size : length s ≡ length s₂
  pub count : (k : ℕ) → k < 4 → get_or s (80 + k) 0 ≡ get_or s₂ (80 + k) 0
  pub facets : (i k : ℕ) → i < count_in s → k < 48 → get_or s (facet_place i + k) 0 ≡ get_or s₂ (facet_place i + k) 0

-- ==== THE promise of read_stl: of a file's bytes s, where the lent lists held l, it answers r and leaves l'
pub record ReadsStl (s : List ℕ) (l : Lists) (r : Result ℕ Refusal) (l' : Lists) : Type 0 where
  -- its number and values are those of the answer
  pub answer : size_numbers r ≡ size_numbers (answer_for s l)
  pub contents : l' ≡ lists_after s l
