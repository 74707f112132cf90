-- The line that spells a command.
use Rattle.std.specs.Prelude.{◌≡◌, ◌<◌, ◌==◌, ℕ, List, length, codes}
use Rattle.std.specs.List.{position_or_len, before_first, after_first}
use Rattle.key_values.specs.declared.command.Command.{Command}
use Rattle.key_values.specs.declared.command.Command.TheVariants as command

-- what stands before the first space
abbrev pub first_word : List ℕ → List ℕ
first_word text = before_first (λ byte. byte == 32) text

-- what stands behind the first space
abbrev pub behind_it : List ℕ → List ℕ
behind_it text = after_first (λ byte. byte == 32) text

-- a space is in it
abbrev pub HasSpace : List ℕ → Type 0
HasSpace text = position_or_len (λ byte. byte == 32) text < length text

-- no space is in it
abbrev pub IsWord : List ℕ → Type 0
IsWord text = position_or_len (λ byte. byte == 32) text ≡ length text

-- this line spells this command
abbrev pub Spells : List ℕ → Command → Type 0
Spells line (command.Set key value) = HasSpace line × (first_word line ≡ codes "SET")
    × HasSpace (behind_it line) × (key.now ≡ first_word (behind_it line))
    × (value.now ≡ behind_it (behind_it line))
Spells line (command.Get key) = HasSpace line × (first_word line ≡ codes "GET")
    × (key.now ≡ behind_it line) × IsWord key.now
Spells line (command.Del key) = HasSpace line × (first_word line ≡ codes "DEL")
    × (key.now ≡ behind_it line) × IsWord key.now
Spells line command.Count = line ≡ codes "COUNT"
Spells line command.Quit = line ≡ codes "QUIT"
Spells line command.Shutdown = line ≡ codes "SHUTDOWN"
