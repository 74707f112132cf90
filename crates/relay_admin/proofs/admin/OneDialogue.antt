-- A text has one list of questions and one end.
use Rattle.std.specs.Prelude.{◌≡◌, ◌≢◌, ◌+◌, ◌≤◌, ◌<◌, ◌∷◌, ◌++◌, ◌⊎◌}
use Rattle.relay_admin.proofs.Words.{◌∙◌, sym, ap, refl, ℕ, List, [], length}
use Rattle.relay_admin.proofs.Words.{Option, Some, None, arith, inl, inr, Command}
use Rattle.relay_admin.proofs.Words.{MAX_LINE_BYTES, AdminEnd, IsCommand, SpellsCommand, command_text, end_of}
use Rattle.relay_admin.proofs.Words.{Exchange, LineTranscript, too_long, no_command, finishes, asks}
use Rattle.relay_admin.proofs.Words.{ended, Transcript, no_line, last_line, line_limit, line_then, questions_of}
use Rattle.relay_admin.specs.declared.admin.end.AdminEnd.TheVariants as ends
use Rattle.relay_admin.specs.admin.Listing.{ids_to_show}
use Rattle.relay_admin.specs.admin.Reply.{asked_for, looked_at}
use Rattle.relay_admin.proofs.admin.CommandLemmas.{one_command}
use Rattle.relay_admin.proofs.Listings.{answer_asks_nothing}

-- what a command asks of the desk: itself, but where it ends the session
abbrev asks_where : Command → Option AdminEnd → List Command
asks_where c (Some end) = []
asks_where c None = c ∷ []

abbrev asks_of : Command → List Command
asks_of c = asks_where c (end_of c)

record IsTooLong (line : List ℕ) (exchanges : List Exchange) (end : Option AdminEnd) : Type 0 where
  pub long : MAX_LINE_BYTES < length line
  pub questions : questions_of exchanges ≡ []
  pub ends : end ≡ Some ends.TooLong

record IsNoCommand (line : List ℕ) (exchanges : List Exchange) (end : Option AdminEnd) : Type 0 where
  pub short : length line ≤ MAX_LINE_BYTES
  pub none : (c : Command) → IsCommand c → line ≢ command_text c
  pub questions : questions_of exchanges ≡ []
  pub ends : end ≡ None

record IsOneCommand (line : List ℕ) (exchanges : List Exchange) (end : Option AdminEnd) : Type 0 where
  pub one : Command
  pub short : length line ≤ MAX_LINE_BYTES
  pub spells : SpellsCommand line one
  pub questions : questions_of exchanges ≡ asks_of one
  pub ends : end ≡ end_of one

abbrev LineKind : List ℕ → List Exchange → Option AdminEnd → Type 0
LineKind line exchanges end =
    IsTooLong line exchanges end ⊎ (IsNoCommand line exchanges end ⊎ IsOneCommand line exchanges end)

kind_of : (line : List ℕ) (exchanges : List Exchange) (reply : List ℕ) (end : Option AdminEnd)
    → LineTranscript line exchanges reply end → LineKind line exchanges end
kind_of _ _ _ _ (too_long line long) = inl (record { long = long; questions = refl; ends = refl })
kind_of _ _ _ _ (no_command line short other) =
    inr (inl (record { short = short; none = other; questions = refl; ends = refl }))
kind_of _ _ _ _ (finishes line c end short spells is) =
    inr (inr (record {
      one = c;
      short = short;
      spells = spells;
      questions = ap (asks_where c) (sym is);
      ends = sym is;
    }))
kind_of _ _ _ _ (asks line c answer looks reply short spells unended same is) =
    inr (inr (record {
      one = c;
      short = short;
      spells = spells;
      questions = ap (λ (l : List Command). c ∷ l) (answer_asks_nothing (ids_to_show c answer) answer looks reply is)
          ∙ ap (asks_where c) (sym unended);
      ends = sym unended;
    }))

-- both ask the same and end in the same way
abbrev SameQuestionsAndEnd : List Exchange → List Exchange → Option AdminEnd → Option AdminEnd → Type 0
SameQuestionsAndEnd exchanges exchanges' end end' = (questions_of exchanges ≡ questions_of exchanges') × (end ≡ end')

same_kind : (line : List ℕ) (a a' : List Exchange) (o o' : Option AdminEnd) → LineKind line a o → LineKind line a' o'
    → SameQuestionsAndEnd a a' o o'
same_kind line a a' o o' (inl x) (inl y) = (x.questions ∙ sym y.questions, x.ends ∙ sym y.ends)
same_kind line a a' o o' (inl x) (inr (inl y)) = let p : MAX_LINE_BYTES < length line = x.long in
    let q : length line ≤ MAX_LINE_BYTES = y.short in absurd (omega arith)
same_kind line a a' o o' (inl x) (inr (inr y)) = let p : MAX_LINE_BYTES < length line = x.long in
    let q : length line ≤ MAX_LINE_BYTES = y.short in absurd (omega arith)
same_kind line a a' o o' (inr (inl x)) (inl y) = let p : MAX_LINE_BYTES < length line = y.long in
    let q : length line ≤ MAX_LINE_BYTES = x.short in absurd (omega arith)
same_kind line a a' o o' (inr (inr x)) (inl y) = let p : MAX_LINE_BYTES < length line = y.long in
    let q : length line ≤ MAX_LINE_BYTES = x.short in absurd (omega arith)
same_kind line a a' o o' (inr (inl x)) (inr (inl y)) = (x.questions ∙ sym y.questions, x.ends ∙ sym y.ends)
same_kind line a a' o o' (inr (inl x)) (inr (inr y)) = absurd (x.none y.one y.spells.0 y.spells.1)
same_kind line a a' o o' (inr (inr x)) (inr (inl y)) = absurd (y.none x.one x.spells.0 x.spells.1)
same_kind line a a' o o' (inr (inr x)) (inr (inr y)) =
    let same = one_command line x.one y.one x.spells y.spells in
    (x.questions ∙ ap asks_of same ∙ sym y.questions, x.ends ∙ ap end_of same ∙ sym y.ends)

one_line : (line : List ℕ) (a a' : List Exchange) (r r' : List ℕ) (o o' : Option AdminEnd) → LineTranscript line a r o
    → LineTranscript line a' r' o' → SameQuestionsAndEnd a a' o o'
one_line line a a' r r' o o' h h' = same_kind line a a' o o' (kind_of line a r o h) (kind_of line a' r' o' h')

questions-append : (a b : List Exchange) → questions_of (a ++ b) ≡ questions_of a ++ questions_of b
questions-append [] b = refl
questions-append (asked_for question answer ∷ a) b = ap (λ (l : List Command). question ∷ l) (questions-append a b)
questions-append (looked_at id seen ∷ a) b = questions-append a b

some_not_none : (e : AdminEnd) → Some e ≡ None → ⊥
some_not_none e h = absurd (cc)

pub one_transcript : (n : ℕ) (lines : List (List ℕ)) (a a' : List Exchange) (r r' : List ℕ) (e e' : AdminEnd)
    → Transcript n lines a r (ended e) → Transcript n lines a' r' (ended e')
    → (questions_of a ≡ questions_of a') × (e ≡ e')
one_transcript n [] _ _ _ _ _ _ no_line no_line = (refl, refl)
one_transcript n (line ∷ lines) a a' r r' e e' (last_line d) (last_line d') = let s =
    one_line line a a' r r' (Some e) (Some e') d d' in (s.0, let same : Some e ≡ Some e' = s.1 in cc)
one_transcript _ (line ∷ lines) a a' r r' e _ (last_line d) (line_limit d') =
    absurd (some_not_none e (one_line line a a' r r' (Some e) None d d').1)
one_transcript n (line ∷ lines) a _ r _ e e' (last_line d) (line_then {exchanges = m} {reply = p} few d' q) =
    absurd (some_not_none e (one_line line a m r p (Some e) None d d').1)
one_transcript _ (line ∷ lines) a a' r r' _ e' (line_limit d) (last_line d') =
    absurd (some_not_none e' (sym (one_line line a a' r r' None (Some e') d d').1))
one_transcript _ (line ∷ lines) a a' r r' _ _ (line_limit d) (line_limit d') =
    ((one_line line a a' r r' None None d d').0, refl)
one_transcript _ (line ∷ lines) a _ r _ _ e' (line_limit d) (line_then few d' q) = absurd (omega arith)
one_transcript n (line ∷ lines) _ a' _ r' e e' (line_then {exchanges = m} {reply = p} few d q) (last_line d') =
    absurd (some_not_none e' (sym (one_line line m a' p r' None (Some e') d d').1))
one_transcript _ (line ∷ lines) _ a' _ r' e _ (line_then few d q) (line_limit d') = absurd (omega arith)
one_transcript n (line ∷ lines) _ _ _ _ e e' (line_then {exchanges = m} {more = more} {reply = p} {replies = t} few d q)
    (line_then {exchanges = m'} {more = more'} {reply = p'} {replies = t'} few' d' q') =
    let here = one_line line m m' p p' None None d d' in
    let there = one_transcript (n + 1) lines more more' t t' e e' q q' in (
      questions-append m more ∙ ap (λ (l : List Command). l ++ questions_of more) here.0
          ∙ ap (λ (l : List Command). questions_of m' ++ l) there.0 ∙ sym (questions-append m' more'),
      there.1,
    )
