-- Lists of events: one event more, and what holds after every list.
use Rattle.std.proofs.Common.{◌≡◌, ◌+◌, ◌<◌, ◌∙◌, [], ◌∷◌, ◌++◌, length}
use Rattle.std.proofs.lemmas.List.{take_more}
use Rattle.lockword_core.proofs.Words.{ℕ, List, refl, sym, ap, take, get_or, Event, Answer, LockState, empty}
use Rattle.lockword_core.proofs.Words.{IsConsistent, transition, state_after, answers_of}
use Rattle.lockword_core.proofs.StateLemmas.{transition_consistent, empty_consistent}

pub state_after-append : (s : LockState) (xs ys : List Event)
    → state_after s (xs ++ ys) ≡ state_after (state_after s xs) ys
state_after-append s [] ys = refl
state_after-append s (x ∷ xs) ys = state_after-append (transition s x.holder x.op).0 xs ys

pub answers_of-push : (s : LockState) (events : List Event) (e : Event)
    → answers_of s (events ++ e ∷ []) ≡ answers_of s events ++ (transition (state_after s events) e.holder e.op).1 ∷ []
answers_of-push s [] e = refl
answers_of-push s (x ∷ events) e =
    ap (λ (rest : List Answer). (transition s x.holder x.op).1 ∷ rest)
    (answers_of-push (transition s x.holder x.op).0 events e)

state_more : (s : LockState) (events : List Event) (i : ℕ) (d : Event) → i < length events
    → state_after s (take (i + 1) events)
    ≡ (transition (state_after s (take i events)) (get_or events i d).holder (get_or events i d).op).0
state_more s events i d inside =
    ap (state_after s) (take_more events i d inside) ∙ state_after-append s (take i events) (get_or events i d ∷ [])

answers_more : (s : LockState) (events : List Event) (i : ℕ) (d : Event) → i < length events
    → answers_of s (take (i + 1) events) ≡ answers_of s (take i events)
    ++ (transition (state_after s (take i events)) (get_or events i d).holder (get_or events i d).op).1 ∷ []
answers_more s events i d inside =
    ap (answers_of s) (take_more events i d inside) ∙ answers_of-push s (take i events) (get_or events i d)

-- a transition from the state after i events is the event i
pub state_next : (s now next : LockState) (a : Answer) (events : List Event) (i : ℕ) (d : Event) → i < length events
    → now ≡ state_after s (take i events)
    → (next, a) ≡ transition now (get_or events i d).holder (get_or events i d).op
    → next ≡ state_after s (take (i + 1) events)
state_next s now next a events i d inside is made =
    ap (λ (p : LockState × Answer). p.0) made
    ∙ ap (λ (u : LockState). (transition u (get_or events i d).holder (get_or events i d).op).0) is
    ∙ sym (state_more s events i d inside)

pub answers_next : (s now next : LockState) (a : Answer) (before : List Answer) (events : List Event) (i : ℕ)
    (d : Event) → i < length events → now ≡ state_after s (take i events)
    → before ≡ answers_of s (take i events)
    → (next, a) ≡ transition now (get_or events i d).holder (get_or events i d).op
    → before ++ a ∷ [] ≡ answers_of s (take (i + 1) events)
answers_next s now next a before events i d inside is so_far made =
    let last : a ≡ (transition (state_after s (take i events)) (get_or events i d).holder (get_or events i d).op).1 =
    ap (λ (p : LockState × Answer). p.1) made
    ∙ ap (λ (u : LockState). (transition u (get_or events i d).holder (get_or events i d).op).1) is in
    ap (λ (xs : List Answer). xs ++ a ∷ []) so_far ∙ ap (λ (x : Answer). answers_of s (take i events) ++ x ∷ []) last
    ∙ sym (answers_more s events i d inside)

pub stays_consistent_after : (s : LockState) (events : List Event) → IsConsistent s
    → IsConsistent (state_after s events)
stays_consistent_after s [] good = good
stays_consistent_after s (e ∷ events) good =
    stays_consistent_after (transition s e.holder e.op).0 events (transition_consistent s e.holder e.op good)

pub always_consistent : (events : List Event) → IsConsistent (state_after empty events)
always_consistent events = stays_consistent_after empty events empty_consistent
