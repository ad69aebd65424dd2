-- The head of a request, 41 bytes: the call, eight lengths in places, k, and how many bytes follow.
use Rattle.std.specs.Prelude.{ℕ, ◌+◌, ◌*◌, ◌≤◌, ◌<◌, List, Bool, true, ◌&&◌, ◌||◌, ◌≡◌, eqb}
use Rattle.numbers.specs.Bytes.{u8_at, u32_at}
use Rattle.stream.specs.declared.requests.Lengths.{Lengths}
use Rattle.stream.specs.declared.requests.Request.{Request}

abbrev pub lengths_of : List ℕ → Lengths
lengths_of h = record {
  positions = u32_at h 1;
  normals = u32_at h 5;
  tags = u32_at h 9;
  triangles = u32_at h 13;
  tubes = u32_at h 17;
  boxes = u32_at h 21;
  words = u32_at h 25;
  floats = u32_at h 29;
}

abbrev pub request_of : List ℕ → Request
request_of h = record { call = u8_at h 0; lent = lengths_of h; k = u32_at h 33; bytes = u32_at h 37 }

-- the sum of the mesh buffers' lengths is far below 2^64
abbrev pub SmallLengths : Request → Type 0
SmallLengths r = (r.lent.positions < 4294967296) × (r.lent.normals < 4294967296) × (r.lent.tags < 4294967296)
    × (r.lent.triangles < 4294967296) × (r.lent.tubes < 4294967296) × (r.lent.boxes < 4294967296)

-- a program whose arrays have the lengths own serves a request for these
pub record Within (lent own : Lengths) : Type 0 where
  pub positions : lent.positions ≤ own.positions
  pub normals : lent.normals ≤ own.normals
  pub tags : lent.tags ≤ own.tags
  pub triangles : lent.triangles ≤ own.triangles
  pub tubes : lent.tubes ≤ own.tubes
  pub boxes : lent.boxes ≤ own.boxes
  pub words : lent.words ≤ own.words
  pub floats : lent.floats ≤ own.floats

-- the calls of one of two parties
abbrev pub party : Request → Bool
party r = eqb r.call 7 || eqb r.call 8

-- build and plan take any bytes, and so do a party's; tube the bytes of its two buffers
abbrev pub known : Request → Bool
known r = eqb r.call 1 || eqb r.call 2 || party r || (eqb r.call 3 && eqb r.bytes (4 * (r.lent.tubes + r.lent.triangles)))

-- a request that is answered by one of calls 1 to 3, 7 and 8, by a program whose arrays have the lengths own and room for so many bytes
pub record Serves (r : Request) (own : Lengths) (room : ℕ) : Type 0 where
  pub within : Within r.lent own
  pub fits : r.bytes ≤ room
  pub knows : known r ≡ true

-- the places of the six mesh buffers
abbrev pub mesh_places : Lengths → ℕ
mesh_places l = l.positions + l.normals + l.tags + l.triangles + l.tubes + l.boxes

-- what a request to write STL is lent: the mesh buffers, and its bytes in the place of scratch words; scratch floats are not looked at
abbrev pub stl_lent : Lengths → Lengths
stl_lent l = record l { floats = 0 }

-- a program's own buffers for such a request, with so many bytes in the place of scratch words
abbrev pub stl_own : Lengths → ℕ → Lengths
stl_own l n = record l { words = n; floats = 0 }

-- a request to write STL that is answered by the call: its bytes are K, V, T and the contents of the mesh buffers
pub record ServesMesh (r : Request) (own : Lengths) (room : ℕ) : Type 0 where
  pub within : Within (stl_lent r.lent) own
  pub fits : r.bytes ≤ room
  pub sized : r.bytes ≡ 12 + 4 * mesh_places r.lent
