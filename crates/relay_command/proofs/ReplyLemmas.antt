-- The exit status for a reply.
use Rattle.std.proofs.Common.{◌≡◌, ◌⊎◌, inl, inr, refl, ℕ, List, Bool, true, false}
use Rattle.std.specs.Prelude.{if◌then◌else◌, ◌||◌}
use Rattle.relay_admin.specs.admin.Refusal.{reply_breaks_off, reply_refuses}
use Rattle.relay_command.specs.ExitStatus.{status_of_reply}

one_or_none : (is_one : Bool) → (◌≡◌ {A = ℕ} (if is_one then 1 else 0) 0) ⊎ (◌≡◌ {A = ℕ} (if is_one then 1 else 0) 1)
one_or_none true = inr refl
one_or_none false = inl refl

-- it is 0 or 1
pub status_known : (reply : List ℕ) (status : ℕ) → status ≡ status_of_reply reply → (status ≡ 0) ⊎ (status ≡ 1)
status_known reply status is = rw is (one_or_none (reply_refuses reply || reply_breaks_off reply))
