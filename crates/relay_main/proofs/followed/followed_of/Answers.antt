use Rattle.std.proofs.Common.{◌≡◌, ◌∙◌, sym, ap, rules}
use Rattle.std.specs.Arc.{arc_value}
use Rattle.std.specs.Option.{option_copied}
use Rattle.relay_main.proofs.FollowedLemmas.{no_token, no_account, by_account, passed_over, comes_behind}
use Rattle.relay_main.proofs.followed.followed_of.Goals as goal

-- it doesn't stand
pub loop-one-preserved-in_default : goal.loop-one-preserved-in_default
loop-one-preserved-in_default c =
    let one = c.one-item.result in
    c.loop-one.invariant
    ∙ sym (passed_over c.args.standing.now c.args.accounts.now c.args.keep.now c.loop-one.one-index one c.loop-one-test.true c.one-item.is
    (no_token c.args.standing.now c.args.accounts.now one (sym c.token_for.ensures ∙ c.in_default.is)))

-- its rule has no account
pub loop-one-preserved-in_default-account_at : goal.loop-one-preserved-in_default-account_at
loop-one-preserved-in_default-account_at c =
    let one = c.one-item.result in
    c.loop-one.invariant
    ∙ sym (passed_over c.args.standing.now c.args.accounts.now c.args.keep.now c.loop-one.one-index one c.loop-one-test.true c.one-item.is
    (no_account c.args.standing.now c.args.accounts.now one c.in-Some.token (sym c.token_for.ensures ∙ c.in-Some.is)
    (sym c.account_at.ensures ∙ ap option_copied c.in_default-account_at.is)))

-- it follows
pub loop-one-preserved : goal.loop-one-preserved
loop-one-preserved c =
    let one = c.one-item.result in
    let same : arc_value c.in_ok-served.served ≡ arc_value c.in-Some-account_at.account.now = search rules in
    comes_behind c.args.standing.now c.args.accounts.now c.args.keep.now c.loop-one.one-index one c.loop-one-test.true c.one-item.is
    c.loop-one.all.items c.push.new.self.items _ (c.in-Some.token, arc_value c.in-Some-account_at.account.now)
    c.in_ok-push.ensures.items c.loop-one.invariant (ap (λ value. (c.in-Some.token, value)) same)
    (by_account c.args.standing.now c.args.accounts.now one c.in-Some.token c.in-Some-account_at.account.now
    (sym c.token_for.ensures ∙ c.in-Some.is) (sym c.account_at.ensures ∙ ap option_copied c.in-Some-account_at.is))
