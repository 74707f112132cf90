-- What a close by the table leaves.
use Rattle.std.specs.Prelude.{ℕ, Bool, is_some}
use Rattle.net.specs.declared.gone.Gone.{Gone}

-- the id in the table of what is gone
abbrev pub gone_id : Gone → ℕ
gone_id gone = gone.absent.id

-- its entry was there until then
abbrev pub was_there : Gone → Bool
was_there gone = is_some gone.shut
