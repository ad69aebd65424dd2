-- The bytes of a request to write STL.
use Rattle.std.specs.Prelude.{◌≡◌, ℕ, ◌+◌, ◌*◌}
use Rattle.stream.specs.Requests.{mesh_places}
use Rattle.stream.specs.declared.requests.Lengths.{Lengths}

-- so many bytes are K, V, T and the contents of the mesh buffers
abbrev pub MeshBytes : Lengths → ℕ → Type 0
MeshBytes l n = n ≡ 12 + 4 * mesh_places l
