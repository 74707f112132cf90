-- How a session ends or fails, from what was read so far and what the last bytes came to.
use Rattle.std.specs.Prelude.{◌≡◌, ◌++◌}
use Rattle.relay_admin.proofs.Words.{◌∙◌, sym, ap, subst, ℕ, List, [], Bool, Option, append-nil, inl, inr}
use Rattle.relay_admin.proofs.Words.{Consumes, Keeps, IsAtEnd, lines_of, lines_so_far, keeps_then_keeps}
use Rattle.relay_admin.proofs.Words.{consumes_then_consumes, consumes_then_keeps, of_whole_text, of_ended_text}
use Rattle.relay_admin.proofs.Words.{Exchange, Ending, ended, Transcript, no_line, IsTranscriptOf, Position, start}
use Rattle.relay_admin.proofs.Words.{IsReady, Advances}
use Rattle.relay_admin.specs.declared.admin.end.AdminEnd.TheVariants as ends
use Rattle.relay_workers.specs.Answering.{Meanwhile}
use Rattle.relay_workers.specs.Devices.{IsFlushedOrUntouched}
use Rattle.relay_workers.specs.Serving.{Serves, ServesWholeLines}
use Rattle.relay_workers.proofs.AnsweringLemmas.{AdvancesMeanwhile, ClosesMeanwhile, close_after, meanwhile_then}

-- the last bytes close the transcript
pub serves_closed : (at : Position) (left0 left1 left2 : Option (List ℕ)) (k0 k1 k2 : Option (List Exchange))
    (h0 h1 h2 : Option (List ℕ)) (got bytes : List ℕ) (ending : Ending)
    → Consumes left0 left1 got → AdvancesMeanwhile start at got k0 k1 h0 h1 → Consumes left1 left2 bytes
    → ClosesMeanwhile at bytes k1 k2 h1 h2 ending → Serves left0 k0 k2 h0 h2 ending
serves_closed at left0 left1 left2 k0 k1 k2 h0 h1 h2 got bytes ending c0 f c1 g =
    let all = close_after start at got bytes [] k0 k1 k2 h0 h1 h2 ending f g in
    record {
      exchanges = all.exchanges;
      replies = all.replies;
      told = all.told;
      written = all.written;
      are = of_whole_text (λ (text : List ℕ). IsTranscriptOf text all.exchanges all.replies ending) left0 left2
          (got ++ bytes) (consumes_then_consumes left0 left1 left2 got bytes c0 c1)
          (λ rest. subst (λ (t : List ℕ). IsTranscriptOf (t ++ rest) all.exchanges all.replies ending)
          (ap (λ (t : List ℕ). got ++ t) (append-nil bytes)) (all.holds rest));
    }

abbrev pub FinishesMeanwhile : Position → Option (List Exchange) → Option (List Exchange) → Option (List ℕ)
    → Option (List ℕ) → Ending → Type 0
FinishesMeanwhile at asked asked' contents contents' ending =
    Meanwhile asked asked' contents contents' (λ exchanges replies. Transcript at.number
    (lines_of at.kept) exchanges replies ending)

whole : (at : Position) (got : List ℕ) (m n : List Exchange) (p q : List ℕ) (ending : Ending)
    → Advances start at got m p → Transcript at.number (lines_of at.kept) n q ending
    → IsTranscriptOf got (m ++ n) (p ++ q) ending
whole at got m n p q ending g are =
    subst (λ (ls : List (List ℕ)). Transcript 1 ls (m ++ n) (p ++ q) ending)
    (sym (lines_so_far at.kept got g.lines g.ends))
    (g.carry (lines_of at.kept) n q ending are)

-- no byte is left
pub serves_at_end : (at : Position) (left0 left1 left2 : Option (List ℕ)) (k0 k1 k2 : Option (List Exchange))
    (h0 h1 h2 : Option (List ℕ)) (got : List ℕ) (ending : Ending)
    → Consumes left0 left1 got → AdvancesMeanwhile start at got k0 k1 h0 h1 → Consumes left1 left2 [] → IsAtEnd left2
    → FinishesMeanwhile at k1 k2 h1 h2 ending → Serves left0 k0 k2 h0 h2 ending
serves_at_end at left0 left1 left2 k0 k1 k2 h0 h1 h2 got ending c0 f c1 e g =
    let all : Meanwhile k0 k2 h0 h2 (λ exchanges replies. IsTranscriptOf got exchanges replies ending) =
    meanwhile_then k0 k1 k2 h0 h1 h2 (λ m p. Advances start at got m p)
    (λ m p. Transcript at.number (lines_of at.kept) m p ending) (λ m p. IsTranscriptOf got m p ending)
    (λ m n p q x y. whole at got m n p q ending x y) f g in
    record {
      exchanges = all.exchanges;
      replies = all.replies;
      told = all.told;
      written = all.written;
      are = of_ended_text (λ (text : List ℕ). IsTranscriptOf text all.exchanges all.replies ending) left0 left2 got
          (subst (Consumes left0 left2) (append-nil got) (consumes_then_consumes left0 left1 left2 got [] c0 c1)) e
          all.holds;
    }

whole_lines : (at : Position) (got : List ℕ) (m : List Exchange) (p : List ℕ) (g : Advances start at got m p)
    → Transcript 1 g.lines m p (ended ends.End)
whole_lines at got m p g =
    subst (λ (ls : List (List ℕ)). Transcript 1 ls m p (ended ends.End)) (append-nil g.lines)
    (subst (λ (t : List ℕ). Transcript 1 (g.lines ++ []) m t (ended ends.End)) (append-nil p)
    (subst (λ (k : List Exchange). Transcript 1 (g.lines ++ []) k (p ++ []) (ended ends.End)) (append-nil m)
    (g.carry [] [] [] (ended ends.End) no_line)))

-- a read failed
pub serves_whole_lines : (at : Position) (left0 left1 left2 : Option (List ℕ)) (k0 k1 : Option (List Exchange))
    (h0 h1 : Option (List ℕ)) (got : List ℕ) → IsReady at → Consumes left0 left1 got → Keeps left1 left2
    → AdvancesMeanwhile start at got k0 k1 h0 h1 → ServesWholeLines left0 left2 k0 k1 h0 h1
serves_whole_lines at left0 left1 left2 k0 k1 h0 h1 got ready c k f = record {
  bytes = got;
  exchanges = f.exchanges;
  replies = f.replies;
  consumed = consumes_then_keeps left0 left1 left2 got c k;
  told = f.told;
  written = f.written;
  are =
      record {
        lines = f.holds.lines;
        more = at.kept;
        split = f.holds.ends.same;
        unended = ready.unended;
        are =
            whole_lines at got f.exchanges f.replies f.holds;
      };
}

-- flushed or untouched, and then again
pub flushed_then : (a b c : Option (List ℕ)) (f g h : Bool) → IsFlushedOrUntouched a b f g
    → IsFlushedOrUntouched b c g h → IsFlushedOrUntouched a c f h
flushed_then a b c f g h x (inl flushed) = inl flushed
flushed_then a b c f g h (inl flushed) (inr still) = inl (still.1 ∙ flushed)
flushed_then a b c f g h (inr still) (inr still') = inr (keeps_then_keeps a b c still.0 still'.0, still'.1 ∙ still.1)

-- a read, which leaves the line as it is

pub still_ready : (number : ℕ) (kept kept' : List ℕ) → kept' ≡ kept → IsReady (record { number = number; kept = kept })
    → IsReady (record { number = number; kept = kept' })
still_ready number kept kept' e ready =
    subst (λ (k : List ℕ). IsReady (record { number = number; kept = k })) (sym e) ready

pub still_advances : (number : ℕ) (kept kept' got : List ℕ) (k0 k1 : Option (List Exchange)) (h0 h1 : Option (List ℕ))
    → kept' ≡ kept
    → AdvancesMeanwhile start (record { number = number; kept = kept }) got k0 k1 h0 h1
    → AdvancesMeanwhile start (record { number = number; kept = kept' }) got k0 k1 h0 h1
still_advances number kept kept' got k0 k1 h0 h1 e f =
    subst (λ (k : List ℕ). AdvancesMeanwhile start (record { number = number; kept = k }) got k0 k1 h0 h1) (sym e) f
