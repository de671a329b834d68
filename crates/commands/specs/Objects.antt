-- Objects of JSON.
use Rattle.std.specs.Prelude.{ℕ, ◌==◌, ◌+◌, ◌-◌, ◌/◌, ◌%◌, nat_lt, cond, List, [], ◌∷◌, ◌++◌, codes, drop, Option, Some, None, option_map, string_bytes}
use Rattle.std.specs.List.{flat_map}
use Rattle.std.specs.Fmt.{decimal}
use Rattle.numerals.specs.Sentences.{bit_digit}
use Rattle.terms_prelude.specs.Terms.{Header, Place, Statement, Record, Said, Decided}
use Rattle.report.specs.Records.{kind_word, value_word}
use Rattle.settings.specs.Texts.{address_text}
use Rattle.settings.specs.declared.address.Address.{Address}
use Rattle.settings.specs.declared.document.Settings.{Settings}

-- the fields of a header
abbrev pub header_fields : Header → List ℕ
header_fields h =
    codes "\"cluster\":" ++ (decimal h.cluster ++ (codes ",\"n\":" ++ (decimal h.size.n ++ (codes ",\"t\":" ++ (decimal h.size.t
    ++ (codes ",\"questions\":" ++ (decimal h.size.questions ++ (codes ",\"me\":" ++ decimal h.me))))))))

-- its object, in a line
abbrev pub header_object : Header → List ℕ
header_object h = codes "{" ++ (header_fields h ++ codes "}\n")

-- the fields of a place
abbrev pub place_fields : Place → List ℕ
place_fields place =
    codes "\"question\":" ++ (decimal place.question ++ (codes ",\"origin\":" ++ (decimal place.origin ++ (codes ",\"round\":"
    ++ (decimal place.round ++ (codes ",\"step\":" ++ decimal place.step))))))

-- the object of a statement, in a line
abbrev pub statement_object : Statement → List ℕ
statement_object s =
    codes "{\"kind\":\"" ++ (kind_word s.kind ++ (codes "\"," ++ (place_fields s.place ++ (codes ",\"value\":\"" ++ (value_word s.value ++ codes "\"}\n")))))

-- the object of a record, in a line
abbrev pub record_object : Record → List ℕ
record_object (Said s) = statement_object s
record_object (Decided question round bit) =
    codes "{\"kind\":\"decided\",\"question\":" ++ (decimal question ++ (codes ",\"round\":" ++ (decimal round
    ++ (codes ",\"bit\":" ++ (decimal (bit_digit bit) ++ codes "}\n")))))

-- the object of the header, and those of the records
abbrev pub objects_text : Header → List Record → List ℕ
objects_text header records = header_object header ++ flat_map record_object records

-- the object of their number
abbrev pub count_object : ℕ → List ℕ
count_object count = codes "{\"records\":" ++ (decimal count ++ codes "}\n")

-- the digit of a number below 16
abbrev pub hex_digit : ℕ → ℕ
hex_digit number = cond (nat_lt number 10) (48 + number) (97 + (number - 10))

-- a byte of a text between quotes
abbrev pub escaped_byte : ℕ → List ℕ
escaped_byte byte =
    cond (byte == 34) (codes "\\\"") (cond (byte == 92) (codes "\\\\")
    (cond (nat_lt byte 32) (codes "\\u00" ++ ((48 + byte / 16) ∷ hex_digit (byte % 16) ∷ [])) (byte ∷ [])))

-- a text between quotes
abbrev pub escaped : List ℕ → List ℕ
escaped text = flat_map escaped_byte text

-- a peer behind a comma, and peers with commas between them
abbrev pub peer_item : Address → List ℕ
peer_item peer = codes ",\"" ++ (address_text peer ++ codes "\"")

abbrev pub listed : List Address → List ℕ
listed peers = drop 1 (flat_map peer_item peers)

-- what stands before the peers, and behind them
abbrev pub check_front : Settings → List ℕ
check_front settings =
    ((codes "{" ++ (header_fields settings.header ++ codes ",\"journal\":\"")) ++ escaped (string_bytes settings.journal)) ++ codes "\",\"peers\":["

abbrev pub check_doors : Address → Option Address → List ℕ
check_doors desk None = codes "],\"desk\":\"" ++ (address_text desk ++ codes "\"")
check_doors desk (Some listen) = codes "],\"desk\":\"" ++ (address_text desk ++ (codes "\",\"listen\":\"" ++ (address_text listen ++ codes "\"")))

abbrev pub path_field : List ℕ → Option (List ℕ) → List ℕ
path_field name None = []
path_field name (Some path) = ((codes ",\"" ++ (name ++ codes "\":\"")) ++ escaped path) ++ codes "\""

abbrev pub check_paths : Settings → List ℕ
check_paths settings =
    path_field (codes "desk-socket") (option_map string_bytes settings.desk_socket) ++ path_field (codes "epochs") (option_map string_bytes settings.epochs)

abbrev pub check_end : ℕ → List ℕ
check_end count = codes ",\"records\":" ++ (decimal count ++ codes "}\n")

abbrev pub check_rest : Settings → ℕ → List ℕ
check_rest settings count =
    (check_doors settings.desk settings.listen ++ check_paths settings) ++ check_end count

-- the object of settings and of a number of records, in a line
abbrev pub check_object : Settings → ℕ → List ℕ
check_object settings count = (check_front settings ++ listed settings.peers.items) ++ check_rest settings count
