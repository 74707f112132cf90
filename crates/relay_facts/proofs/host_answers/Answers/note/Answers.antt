use Rattle.std.proofs.Common.{◌∙◌, [], ◌∷◌, ◌++◌, ap, not, refl, rules}
use Rattle.std.proofs.lemmas.Fn.{filter_same}
use Rattle.relay_facts.specs.HostAnswers.{is_of, noted, without_host}
use Rattle.relay_facts.specs.declared.host_answers.Answer.{Answer}
use Rattle.relay_facts.proofs.host_answers.Answers.note.Goals as goal

pub returns-clause-noted : goal.returns-clause-noted
returns-clause-noted c =
    let answer : Answer = record { host = c.args.host; addresses = c.in_ok-addresses.addresses } in
    record {
      answer = answer;
      all = c.in-Ok.ensures.items ∙ ap (λ it. it ++ answer ∷ [])
          (filter_same _ (λ (one : Answer). not (is_of c.args.host.bytes one)) _ (λ x b f' k. search rules) _ _ c.retain.ensures.filtered
          ∙ ap (λ it. without_host c.args.host.bytes it) c.in_ok-reserve.ensures.items);
      is_its = refl;
      addresses = c.in_ok-addresses.ensures ∙ ap (λ known. noted known c.args.found.now) c.addresses.ensures;
    }
