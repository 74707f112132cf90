-- Who tells a connection that it is ready.
use Rattle.std.specs.Prelude.{Bool, true, false}
use Rattle.net.specs.declared.home.Home.{Home}
use Rattle.net.specs.declared.home.Home.TheVariants as home

module _ {R : Type 0} where
  -- a loop has a task for the connection
  abbrev pub is_loop : Home R → Bool
  is_loop (home.Loop place) = true
  is_loop home.Net = false
