-- A byte that no name has: "another byte in a name" than one "from 32 to 126".
use Rattle.std.specs.Prelude.{ℕ, Bool, ltb}
use Rattle.base.specs.Base.{◌or◌}

unfoldable pub odd_byte : ℕ → Bool
odd_byte b = ltb b 32 or ltb 126 b
