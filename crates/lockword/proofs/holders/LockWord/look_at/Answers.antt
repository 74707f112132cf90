use Rattle.std.proofs.Common.{◌∙◌}
use Rattle.lockword_core.proofs.WordFields.{unpacks}
use Rattle.lockword.proofs.Words.{rules, subst, sym, ap, LocalView, IsFound, Word}
use Rattle.lockword.proofs.WordTests.{shown, heard_in}
use Rattle.lockword.proofs.LookSteps.{looks}
use Rattle.lockword.proofs.holders.LockWord.look_at.Goals as goal

pub load-requires : goal.load-requires
load-requires g c = (search rules, search rules, looks _ _ _ _ _)

pub returns-clause-looks : goal.returns-clause-looks
returns-clause-looks g c =
    let h = c.load.ensures.2.0 in
    let told = c.load.ensures.2.1 in
    let now = c.load.ensures.2.2 in
    let hears = c.load.ensures.2.3 in
    let fields = unpacks c.fields_of.result c.load.result c.fields_of.ensures.fits c.fields_of.ensures.same in
    record {
      shown = shown g.row.R.Denot g.row.W.Denot c.load.result c.fields_of.result c.load.new.seat.me.0
          (subst (λ (v : LocalView). IsFound g.row.R.Denot g.row.W.Denot c.load.result v)
          (sym (ap (λ m. m.0) now)) told.found) c.fields_of.ensures.fits c.fields_of.ensures.same;
      heard = heard_in c.load.result c.fields_of.result c.args.place.now c.load.new.seat h c.fields_of.ensures.same
          now hears;
      same_deeds = search rules;
      is_word = search rules;
      same_word = search rules;
      sees_flag = ap (λ m. m.0.saw.closed) now ∙ ap (λ (f : Word). f.closed) fields;
      same_done = search rules;
      flag_stays = search rules;
      sees_drain = ap (λ m. m.0.saw.draining) now ∙ ap (λ (f : Word). f.drain) fields;
      drain_stays = search rules;
      nothing_after_done = search rules;
      shows_stake = search rules;
    }
