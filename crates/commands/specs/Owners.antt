-- Whose journal a file is.
use Rattle.std.specs.Prelude.{ℕ, ◌≡◌, ◌==◌, ◌⊎◌, Bool, true, false, List, [], ◌++◌, codes, length}
use Rattle.std.specs.Fmt.{decimal}
use Rattle.terms_prelude.specs.Terms.{Header, Record}
use Rattle.journal.specs.declared.fault.JournalFault.{JournalFault}
use Rattle.journal.specs.File.{HasHeader, Holds, RefusesFile}

-- the cluster, its size and the member
abbrev pub header_words : Header → List ℕ
header_words h =
    codes "cluster " ++ (decimal h.cluster ++ (codes " n " ++ (decimal h.size.n ++ (codes " t " ++ (decimal h.size.t ++ (codes " questions " ++ (decimal h.size.questions ++ (codes " member " ++ decimal h.me))))))))

-- the word, or nothing where that is so
abbrev pub unless : Bool → List ℕ → List ℕ
unless true word = []
unless false word = word

-- in what the headers differ, each behind a blank
abbrev pub differences : Header → Header → List ℕ
differences a b =
    unless (a.cluster == b.cluster) (codes " cluster") ++ (unless (a.size.n == b.size.n) (codes " n") ++ (unless (a.size.t == b.size.t) (codes " t") ++ (unless (a.size.questions == b.size.questions) (codes " questions") ++ unless (a.me == b.me) (codes " member"))))

-- that the journal is of this header, and not of that which was asked for
abbrev pub other_words : Header → Header → List ℕ
other_words found asked =
    codes "of " ++ (header_words found ++ (codes ", and not of " ++ (header_words asked ++ (codes ":" ++ differences found asked))))

-- the file begins with a header, and the words say it, and in what the one that was asked for is another
pub record IsOtherOwner (file : List ℕ) (asked : Header) (words : List ℕ) : Type 0 where
  pub found : Header
  pub begins : HasHeader found file
  pub is : words ≡ other_words found asked

-- whose journal it is, and of how many records
abbrev pub owner_words : Header → ℕ → List ℕ
owner_words h count =
    codes "the journal of member " ++ (decimal h.me ++ (codes " of cluster " ++ (decimal h.cluster ++ (codes " with " ++ (decimal count ++ (codes " record" ++ unless (count == 1) (codes "s")))))))

-- the file is a journal of the header with so many records
pub record IsJournalOf (file : List ℕ) (header : Header) (count : ℕ) : Type 0 where
  pub records : List Record
  pub holds : Holds header records file
  pub many : count ≡ length records

-- the file is a journal, and the words say whose, and of how many records
pub record IsOwner (file : List ℕ) (words : List ℕ) : Type 0 where
  pub header : Header
  pub count : ℕ
  pub journal : IsJournalOf file header count
  pub is : words ≡ owner_words header count

-- whose journal it begins as, and how long it is
abbrev pub long_words : Header → ℕ → List ℕ
long_words h length =
    codes "begins as the journal of member " ++ (decimal h.me ++ (codes " of cluster " ++ (decimal h.cluster ++ (codes " and has " ++ (decimal length ++ codes " bytes")))))

-- a file of that length begins so, with a header, and the words say whose, and how long it is
pub record IsLongOwner (front : List ℕ) (length : ℕ) (words : List ℕ) : Type 0 where
  pub header : Header
  pub begins : HasHeader header front
  pub is : words ≡ long_words header length

-- the file begins with no header
abbrev pub IsHeadless : List ℕ → Type 0
IsHeadless file = (header : Header) → HasHeader header file → ⊥

-- who opens the file by this header finds something wrong
abbrev pub IsRefused : List ℕ → Header → Type 0
IsRefused file header = (fault : JournalFault) × RefusesFile header fault file

-- the file is no journal: it begins with no header, or with one by which it can't be opened
abbrev pub IsNoJournal : List ℕ → Type 0
IsNoJournal file = IsHeadless file ⊎ ((header : Header) × HasHeader header file × IsRefused file header)
