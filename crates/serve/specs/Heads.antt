-- What holds of the head of a request.
use Rattle.std.specs.Prelude.{ℕ, false, ◌≡◌}
use Rattle.stream.specs.Requests.{party}
use Rattle.stream.specs.declared.requests.Request.{Request}
use Rattle.replies.specs.Sized.{Sized}

-- a request with n bytes, where it is not a party's, comes with those that its call asks for
abbrev pub Answerable : Request → ℕ → Type 0
Answerable r n = party r ≡ false → Sized r n
