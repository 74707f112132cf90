use Rattle.std.proofs.Common.{rules}
use Rattle.std.proofs.lemmas.Fn.{filter_same}
use Rattle.relay_facts.specs.HostAnswers.{is_named}
use Rattle.relay_facts.specs.declared.host_answers.Answer.{Answer}
use Rattle.relay_facts.proofs.host_answers.Answers.keep.Goals as goal

pub returns : goal.returns
returns c =
    filter_same _ (λ (one : Answer). is_named c.args.names.now one.host.bytes) _ (λ x b f' k. search rules) _ _ c.retain.ensures.filtered
