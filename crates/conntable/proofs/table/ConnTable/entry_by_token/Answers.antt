use Rattle.std.proofs.Common.{◌∙◌, ap, sym, Some, option_copied}
use Rattle.conntable.specs.ConnTable.{entry_with_token}
use Rattle.conntable.specs.Slots.{entries_at}
use Rattle.conntable.proofs.SlotLemmas.{by_token_near}
use Rattle.conntable.proofs.table.ConnTable.entry_by_token.Goals.{in-Some, in_default+in_ok-entry-in_default}
use Rattle.conntable.proofs.table.ConnTable.entry_by_token.Goals as goal

pub returns : goal.returns
returns g c = elim c.match-get.branch [
  | in-Some w ↦ (ap (λ e. option_copied (Some e)) w.entry-is
      ∙ sym (by_token_near c.self.inside.slots c.self.inside.index.entries
      (entries_at c.self.inside.slots c.self.inside.index.entries) c.args.token c.key_in.result w.in-Some.entry.now
      c.self.invariant.1 c.self.invariant.0.tokens (sym w.in-Some.ensures) w.if-entry-token.true)
      ∙ ap (λ t. entry_with_token c.args.token t.entries) c.self.view_is)
  | in_default+in_ok-entry-in_default w ↦ (ap (λ e. option_copied (Some e)) w.entry-is
      ∙ sym (ap option_copied w.in_ok-entry-in_default.was) ∙ w.entry_elsewhere.ensures)
]
