-- What an operator has set of a target, as a word has it, and what that makes of its state.
use Rattle.std.specs.Prelude.{◌≡◌, ◌==◌, ℕ, Bool, true, false, if◌then◌else◌}
use Rattle.relay_admin.specs.declared.admin.target_order.Order.{Order}
use Rattle.relay_admin.specs.declared.admin.target_order.Order.TheVariants.{Auto, Up, Drain, Down}

-- the word of what is set
abbrev pub order_number : Order → ℕ
order_number Auto = 0
order_number Up = 1
order_number Drain = 2
order_number Down = 3

-- what a word says
abbrev pub order_in : ℕ → Order
order_in word = if word == 1 then Up else if word == 2 then Drain else if word == 3 then Down else Auto

-- the word is that of something that an operator may set
abbrev pub IsOrder : ℕ → Type 0
IsOrder word = (order : Order) × (word ≡ order_number order)

-- a target is up: as its checks say, unless an operator has set that it is up or down
abbrev pub is_up_by : Order → Bool → Bool
is_up_by Auto is_healthy = is_healthy
is_up_by Drain is_healthy = is_healthy
is_up_by Up is_healthy = true
is_up_by Down is_healthy = false

-- an operator has set that it gets nobody new
abbrev pub is_drained_by : Order → Bool
is_drained_by Drain = true
is_drained_by Auto = false
is_drained_by Up = false
is_drained_by Down = false
