-- What holds of a request that is served.
use Rattle.std.specs.Prelude.{◌≡◌, ℕ, ◌+◌, ◌*◌}
use Rattle.stream.specs.declared.requests.Request.{Request}

-- a tube request comes with the bytes of its two buffers
abbrev pub Sized : Request → ℕ → Type 0
Sized r n = (r.call ≡ 1 → ⊥) → (r.call ≡ 2 → ⊥) → n ≡ 4 * (r.lent.tubes + r.lent.triangles)
