-- The reply by a dossier is that by its book.
use Rattle.std.proofs.Common.{◌≡◌, ℕ, ◌∙◌, subst, sym, Result, Ok, Err, IfOk, IfErr}
use Rattle.node.specs.declared.transcript.TranscriptFault.TheVariants as thin
use Rattle.node.specs.Transcripts.{DossierView, IsDossier}
use Rattle.node.specs.Views.{BookView}
use Rattle.node.proofs.Dossiers.{given, withheld}
use Rattle.desk.specs.declared.reply.Reply.{Reply}
use Rattle.desk.specs.declared.reply.Reply.TheVariants.{Taken, Have, Stopped, Decided, Undecided, Up, Transcript, Links, State, Thin, BadLine, BadQuestion, BadBit, Memory}
use Rattle.desk.specs.Answers.{IsDossierReply, IsTranscriptReply, MayBeShown}

pub replied : {D : Type 0} (b : BookView D) (q : ℕ) (d : DossierView) (reply : Reply) → MayBeShown b q → IsDossier b q d → IsDossierReply d reply → IsTranscriptReply b q reply
replied b q d Thin may is r = (may, withheld b q d thin.Thin is r)
replied b q d Memory may is r = (may, withheld b q d thin.Memory is r)
replied b q d (Transcript asked t) may is r = (r.0 ∙ is.question_is, may, given b q d t is r.1 r.2 r.3)
replied b q d BadQuestion may is r = absurd r
replied b q d Stopped may is r = absurd r
replied b q d Undecided may is r = absurd r
replied b q d Taken may is r = absurd r
replied b q d (Have bit) may is r = absurd r
replied b q d (Decided bit) may is r = absurd r
replied b q d (Up statements decided) may is r = absurd r
replied b q d (Links count size) may is r = absurd r
replied b q d (State state) may is r = absurd r
replied b q d BadLine may is r = absurd r
replied b q d BadBit may is r = absurd r

-- whether there is one or not
pub replied_of : {D : Type 0} (b : BookView D) (q : ℕ) (asked : Result DossierView Reply) (reply : Reply)
    → IfOk asked (λ (d : DossierView). MayBeShown b q × IsDossier b q d) → IfErr asked (IsTranscriptReply b q)
    → IfOk asked (λ (d : DossierView). IsDossierReply d reply) → IfErr asked (λ (r : Reply). reply ≡ r) → IsTranscriptReply b q reply
replied_of b q (Ok d) reply ok err by_ok by_err = replied b q d reply ok.0 ok.1 by_ok
replied_of b q (Err r) reply ok err by_ok by_err = subst (λ (x : Reply). IsTranscriptReply b q x) (sym by_err) err
