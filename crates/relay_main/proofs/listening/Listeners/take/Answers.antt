use Rattle.std.proofs.Common.{◌≡◌, ◌≤◌, ◌<◌, ◌∙◌, sym, ap, arith, length}
use Rattle.std.specs.List.{position_or_len}
use Rattle.relay_main.specs.Listening.{is_at}
use Rattle.relay_main.proofs.ListeningLemmas.{none_past, first_is}
use Rattle.relay_main.proofs.listening.Listeners.take.Goals as goal

pub returns-then-place-len-clause-taken : goal.returns-then-place-len-clause-taken
returns-then-place-len-clause-taken c =
    let p = is_at c.args.addr.now in
    let at : c.place_at-place.result ≡ position_or_len p c.args.self.now.given.items =
    c.place_at-place.ensures ∙ ap (position_or_len p) c.as_slice.ensures.value in
    let past : length c.args.self.now.given.items ≤ c.place_at-place.result =
    omega (arith, ap length c.as_slice.ensures.value, c.as_slice.ensures.len, c.if-place-len.true) in
    sym (none_past p (λ given. given.listener) c.args.self.now.given.items c.place_at-place.result at past)

pub returns-clause-taken : goal.returns-clause-taken
returns-clause-taken c =
    let p = is_at c.args.addr.now in
    let at : c.place_at-place.result ≡ position_or_len p c.args.self.now.given.items =
    c.place_at-place.ensures ∙ ap (position_or_len p) c.as_slice.ensures.value in
    let within : c.place_at-place.result < length c.args.self.now.given.items =
    omega (arith, ap length c.as_slice.ensures.value, c.as_slice.ensures.len, c.if-place-len.false) in
    sym (first_is p (λ given. given.listener) c.args.self.now.given.items c.place_at-place.result
    c.remove-listener.result at within c.remove-listener.ensures.value)
