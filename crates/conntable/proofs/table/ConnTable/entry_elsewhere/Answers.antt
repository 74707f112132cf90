use Rattle.std.proofs.Common.{◌≡◌, ◌==◌, ◌∙◌, ap, sym, find, option_copied}
use Rattle.conntable.specs.Token.{id_of}
use Rattle.conntable.specs.ConnTable.{entry_with_token, entry_with_id}
use Rattle.conntable.specs.Slots.{entries_at}
use Rattle.conntable.proofs.SlotLemmas.{by_token_found, by_token_none, by_token_other}
use Rattle.conntable.proofs.table.ConnTable.entry_elsewhere.Goals as goal

pub returns-in_err-entry : goal.returns-in_err-entry
returns-in_err-entry g c =
    let es = entries_at c.self.inside.slots c.self.inside.index.entries in
    let near : option_copied c.entry_by_id.result ≡ find (λ e. e.id == id_of c.args.token) es =
    c.entry_by_id.ensures ∙ ap (λ id. entry_with_id id c.args.self.now.entries) c.id_in.ensures
    ∙ sym (ap (λ t. entry_with_id (id_of c.args.token) t.entries) c.self.view_is) in
    ap option_copied c.from_residual.ensures
    ∙ sym (by_token_none es c.args.token c.self.invariant.0.tokens
    (sym near ∙ ap option_copied c.in_err-entry.was))
    ∙ ap (λ t. entry_with_token c.args.token t.entries) c.self.view_is

pub returns-then-entry-token : goal.returns-then-entry-token
returns-then-entry-token g c =
    let es = entries_at c.self.inside.slots c.self.inside.index.entries in
    let near : option_copied c.entry_by_id.result ≡ find (λ e. e.id == id_of c.args.token) es =
    c.entry_by_id.ensures ∙ ap (λ id. entry_with_id id c.args.self.now.entries) c.id_in.ensures
    ∙ sym (ap (λ t. entry_with_id (id_of c.args.token) t.entries) c.self.view_is) in
    sym (by_token_found c.self.inside.slots c.self.inside.index.entries es c.args.token c.in_ok-entry.entry.now
    c.self.invariant.1 c.self.invariant.0.tokens (sym near ∙ ap option_copied c.in_ok-entry.was)
    c.if-entry-token.true)
    ∙ ap (λ t. entry_with_token c.args.token t.entries) c.self.view_is

pub returns-else-entry-token : goal.returns-else-entry-token
returns-else-entry-token g c =
    let es = entries_at c.self.inside.slots c.self.inside.index.entries in
    let near : option_copied c.entry_by_id.result ≡ find (λ e. e.id == id_of c.args.token) es =
    c.entry_by_id.ensures ∙ ap (λ id. entry_with_id id c.args.self.now.entries) c.id_in.ensures
    ∙ sym (ap (λ t. entry_with_id (id_of c.args.token) t.entries) c.self.view_is) in
    sym (by_token_other c.self.inside.slots c.self.inside.index.entries es c.args.token c.in_ok-entry.entry.now
    c.self.invariant.1 c.self.invariant.0.tokens (sym near ∙ ap option_copied c.in_ok-entry.was)
    c.if-entry-token.false)
    ∙ ap (λ t. entry_with_token c.args.token t.entries) c.self.view_is
