-- Which form of a command its words have.
use Rattle.std.specs.Prelude.{false, true, Option, Some, None, ℕ, Bool}
use Rattle.files.specs.declared.shapes.Audited.{Audited}
use Rattle.files.specs.declared.shapes.Audited.TheVariants.{File, Cluster}
use Rattle.files.specs.declared.shapes.AuditWords.{AuditWords}

-- of a file the size is wanted, and of a cluster the question, and nothing of the other one; a file takes no time to be waited for
abbrev pub audited : (all timed : Bool) (question n t questions : Option ℕ) → Option Audited
audited true _ (Some question) None None None = Some (Cluster question)
audited true _ _ _ _ _ = None
audited false false None (Some n) (Some t) (Some questions) = Some (File n t questions)
audited false _ _ _ _ _ = None

-- what the words of `audit` name, if they have one of its forms
abbrev pub audited_by : AuditWords → Option Audited
audited_by words = audited words.all words.timed words.question words.n words.t words.questions
