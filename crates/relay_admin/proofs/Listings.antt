-- What replies come to, and that looks are no questions.
use Rattle.std.specs.Prelude.{◌≡◌, ◌∷◌}
use Rattle.relay_admin.proofs.Words.{sym, ap, refl, subst, ℕ, List, [], Option, Some, None}
use Rattle.relay_admin.proofs.Words.{Exchange, questions_of}
use Rattle.relay_admin.specs.declared.admin.reply_text.TheConstants.{SHOWN_ALL}
use Rattle.relay_admin.specs.admin.Listing.{AnswerComesTo, Comes, Said, Shows, each, gone, line, refused, shown_all, whole}
use Rattle.relay_admin.specs.admin.Reply.{Answer, IsReplyTo, Key, looked_at}

-- ---- Looks are no questions

shows_ask_nothing : (list : List Key) (looks : List Exchange) (text : List ℕ) → Shows list looks text
    → questions_of looks ≡ []
shows_ask_nothing _ _ _ shown_all = refl
shows_ask_nothing _ _ _ (gone {rest = rest} {looks = looks} {text = text} more) =
    shows_ask_nothing rest looks text more
shows_ask_nothing _ _ _ (line {rest = rest} {looks = looks} {text = text} seen more) =
    shows_ask_nothing rest looks text more
shows_ask_nothing _ _ _ (refused seen) = refl

pub answer_asks_nothing : (o : Option (List Key)) (answer : Answer) (looks : List Exchange) (text : List ℕ)
    → AnswerComesTo o answer looks text → questions_of looks ≡ []
answer_asks_nothing None answer looks text h = ap questions_of h.0
answer_asks_nothing (Some list) answer looks text h = shows_ask_nothing list looks text h

-- ---- All may be gone

abbrev pub gone_looks : List Key → List Exchange
gone_looks [] = []
gone_looks (key ∷ keys) = looked_at key None ∷ gone_looks keys

pub all_gone : (list : List Key) → Shows list (gone_looks list) SHOWN_ALL.now
all_gone [] = shown_all
all_gone (key ∷ keys) = gone (all_gone keys)

-- each reply comes to something
pub some_comes : (said : Said) → (looks : List Exchange) × (text : List ℕ) × Comes said looks text
some_comes (whole reply) = ([], reply, (refl, refl))
some_comes (each list) = (gone_looks list, SHOWN_ALL.now, all_gone list)

-- ---- What a reply of the program comes to

pub by_whole : (o : Option (List Key)) (answer : Answer) (reply : List ℕ) → o ≡ None → IsReplyTo answer reply
    → (looks : List Exchange) (text : List ℕ) → Comes (whole reply) looks text → AnswerComesTo o answer looks text
by_whole o answer reply e is looks text comes =
    subst (λ (p : Option (List Key)). AnswerComesTo p answer looks text) (sym e)
    (comes.0, subst (λ (t : List ℕ). IsReplyTo answer t) (sym comes.1) is)
