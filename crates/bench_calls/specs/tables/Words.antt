-- What the words of the command line ask for.
use Rattle.std.specs.Prelude.{◌≡◌, ◌^◌, ℕ, List, Option, Some, None, codes, if◌then◌else◌}
use Rattle.std.specs.Str.{bytes_eq}
use Rattle.bench_calls.specs.Numbers.{IsBelow, number_in}
use Rattle.bench_calls.specs.declared.tables.job.By.TheVariants.{Token, Id}
use Rattle.bench_calls.specs.declared.tables.job.Job.{Job}
use Rattle.bench_calls.specs.declared.tables.job.Job.TheVariants as job

-- a load by its name, of this size
abbrev pub named_job : List ℕ → ℕ → ℕ → Option Job
named_job name count times =
    if bytes_eq name (codes "timers") then Some (job.Timers count times)
    else if bytes_eq name (codes "tokens") then Some (job.LookUps Token count times)
    else if bytes_eq name (codes "ids") then Some (job.LookUps Id count times)
    else None

-- the job of these three words
abbrev pub IsJob : List ℕ → List ℕ → List ℕ → Job → Type 0
IsJob load count times asked = named_job load (number_in count) (number_in times) ≡ Some asked

-- these three words ask for no job: one of the numbers is none of 64 bits, or the load has another
-- name
abbrev pub HasNoJob : List ℕ → List ℕ → List ℕ → Type 0
HasNoJob load count times =
    IsBelow (2 ^ 64) count → IsBelow (2 ^ 64) times
    → named_job load (number_in count) (number_in times) ≡ None
