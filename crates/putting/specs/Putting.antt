-- What stands in a payload of edition 2 before what edition 1 has.
use Rattle.std.specs.Prelude.{ℕ, List, []}
use Rattle.rules.specs.Numbers.{bytes}
use Rattle.rules.specs.declared.Event.{Event}
use Rattle.rules.specs.declared.Event.TheVariants.{Open, Read, Write, Close, End, Note, Other}

-- "Read and write .. and close .. have the session before their other fields"; the record that says the edition has its number
unfoldable pub lead_of : ℕ → Event → List ℕ
lead_of n (Open s) = []
lead_of n (Read x v) = bytes 2 n
lead_of n (Write x v) = bytes 2 n
lead_of n (Close c) = bytes 2 n
lead_of n (End m) = []
lead_of n Note = []
lead_of n Other = bytes 2 2
