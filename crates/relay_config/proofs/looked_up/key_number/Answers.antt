use Rattle.std.proofs.Common.{◌≡◌, ◌∙◌, Bor, None, Some, String, Global, option_map}
use Rattle.std.specs.Prelude.{slice_get}
use Rattle.std.specs.BTreeMap.{keys}
use Rattle.std.proofs.lemmas.Iterator.Consumers.{YieldsList-from_rest, nth_from_yields_List}
use Rattle.relay_config.proofs.Tables.{key_numbered}
use Rattle.relay_config.proofs.looked_up.key_number.Goals as goal

pub returns-in-Some-nth : goal.returns-in-Some-nth
returns-in-Some-nth c =
    let nth : option_map (λ (word : Bor (String Global)). word.now) c.nth.result ≡ slice_get (keys c.in-Some.here.now) c.args.number =
    nth_from_yields_List c.nth.result c.nth.new.self c.args.number c.nth.ensures.ran
    (YieldsList-from_rest (keys c.in-Some.here.now) c.keys.ensures.rest) in
    c.as_str.ensures.value
    ∙ key_numbered _ c.in-Some.here.now.entries (Some c.in-Some-nth.word) c.args.number c.in-Some.ensures (rw c.in-Some-nth.is at nth)

pub returns-in-None : goal.returns-in-None
returns-in-None c =
    let nth : option_map (λ (word : Bor (String Global)). word.now) c.nth.result ≡ slice_get (keys c.in-Some.here.now) c.args.number =
    nth_from_yields_List c.nth.result c.nth.new.self c.args.number c.nth.ensures.ran
    (YieldsList-from_rest (keys c.in-Some.here.now) c.keys.ensures.rest) in
    key_numbered _ c.in-Some.here.now.entries None c.args.number c.in-Some.ensures (rw c.in-None.is at nth)
