use Rattle.std.proofs.Common.{rules, ◌≡◌, ◌∙◌, ap, [], Option, Some, None, option_map, Bor}
use Rattle.std.specs.Prelude.{unwrap_or}
use Rattle.std.proofs.lemmas.Result.{IfOk-weaker}
use Rattle.clap.specs.Walk.{Text, first_of, rows_of}
use Rattle.clap.specs.Matches.{found_of}
use Rattle.clap.proofs.WalkLemmas.{first_value-rows}
use Rattle.relay_command.proofs.job.value.Goals as goal

-- the text behind a reference or behind the one in its place
text_or_default : (o : Option (Bor Text)) (d : Bor Text) (f : Option Text) → option_map (λ (s : Bor Text). s.now) o ≡ f
    → d.now ≡ []
    → (unwrap_or o d).now ≡ unwrap_or f []
text_or_default None d f e z = z ∙ ap (λ (x : Option Text). unwrap_or x []) e
text_or_default (Some s) d f e z = ap (λ (x : Option Text). unwrap_or x []) e

text_read : (r d : Bor Text) (o : Option (Bor Text)) (f : Option Text) → r ≡ unwrap_or o d
    → option_map (λ (s : Bor Text). s.now) o ≡ f
    → d.now ≡ [] → r.now ≡ unwrap_or f []
text_read r d o f e first z = ap (λ (s : Bor Text). s.now) e ∙ text_or_default o d f first z

pub returns : goal.returns
returns c =
    let first : option_map (λ (s : Bor Text). s.now) c.get_str.result
    ≡ first_of c.args.id.now (rows_of (found_of c.args.matches.now))
    = c.get_str.ensures ∙ first_value-rows (found_of c.args.matches.now) c.args.id.now in
    let text = text_read c.unwrap_or.result _ c.get_str.result _ c.unwrap_or.ensures first (search rules) in
    IfOk-weaker c.from_str.result _ _ (λ t h. h ∙ text) c.from_str.ensures.ok
