-- What the words of the command line ask for.
use Rattle.std.specs.Prelude.{◌≡◌, ℕ, List, Option, Some, None, codes, if◌then◌else◌}
use Rattle.std.specs.Str.{bytes_eq}
use Rattle.bench_calls.specs.Numbers.{IsBelow}
use Rattle.bench_calls.specs.declared.lock_word.job.Load.{Load}
use Rattle.bench_calls.specs.declared.lock_word.job.Load.TheVariants as load

-- what a thread does, by its name
abbrev pub load_named : List ℕ → Option Load
load_named name =
    if bytes_eq name (codes "references") then Some load.References
    else if bytes_eq name (codes "reads") then Some load.Reads
    else None

-- these four words ask for no job: one of the numbers is none that fits, or no load has the name
abbrev pub HasNoJob : List ℕ → List ℕ → List ℕ → List ℕ → Type 0
HasNoJob name threads rounds lead =
    IsBelow 256 threads → IsBelow 18446744073709551616 rounds → IsBelow 65536 lead →
    load_named name ≡ None
