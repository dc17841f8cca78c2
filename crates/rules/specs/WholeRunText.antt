-- 01, "A whole run", as bytes: what the program reads, and what it must write. `|` stands for the tab.
use Rattle.std.specs.Prelude.{ℕ, List, [], ◌∷◌, ◌≡◌, refl}
use Rattle.std.proofs.Math.Option.{bind}
use Rattle.rules.specs.Ledger.{sizes_fit}
use Rattle.rules.specs.Refusals.{opening_refusal}
use Rattle.rules.specs.Bytes.{split, is_digit, digits_value, well_led, number, signed, decimal_from, decimal_text, signed_text}
use Rattle.rules.specs.Records.{each_part, list_of, write_parts, a_write, a_ballot, a_snapshot, opening_fields, delivery_fields, vote_fields, change_fields, read_fields, by_letter, by_fields, record_of}
use Rattle.rules.specs.AnswerText.{refusal_text, opened_text, outcome_text, finishes_text, delivery_text, vote_text, change_text, read_text, answer_text, step_text}
use Rattle.rules.specs.Program.{open_record, event_record, take_record, take_lines, whole_lines, run_text}
use Rattle.rules.specs.Cases.{computed}

unfoldable pub the_log : List ℕ
the_log =
    -- O|2|0|1
    79 ∷ 9 ∷ 50 ∷ 9 ∷ 48 ∷ 9 ∷ 49 ∷ 10
    -- D|10|3|0|7|7=500
    ∷ 68 ∷ 9 ∷ 49 ∷ 48 ∷ 9 ∷ 51 ∷ 9 ∷ 48 ∷ 9 ∷ 55 ∷ 9 ∷ 55 ∷ 61 ∷ 53 ∷ 48 ∷ 48 ∷ 10
    -- D|11|1|0|8|8=-40
    ∷ 68 ∷ 9 ∷ 49 ∷ 49 ∷ 9 ∷ 49 ∷ 9 ∷ 48 ∷ 9 ∷ 56 ∷ 9 ∷ 56 ∷ 61 ∷ 45 ∷ 52 ∷ 48 ∷ 10
    -- V|10|1|Y
    ∷ 86 ∷ 9 ∷ 49 ∷ 48 ∷ 9 ∷ 49 ∷ 9 ∷ 89 ∷ 10
    -- R|8|-
    ∷ 82 ∷ 9 ∷ 56 ∷ 9 ∷ 45 ∷ 10
    -- R|7|1
    ∷ 82 ∷ 9 ∷ 55 ∷ 9 ∷ 49 ∷ 10
    -- D|12|1|1|7|7=600
    ∷ 68 ∷ 9 ∷ 49 ∷ 50 ∷ 9 ∷ 49 ∷ 9 ∷ 49 ∷ 9 ∷ 55 ∷ 9 ∷ 55 ∷ 61 ∷ 54 ∷ 48 ∷ 48 ∷ 10
    ∷ []

unfoldable pub the_answers : List ℕ
the_answers =
    -- O|2|0|1
    79 ∷ 9 ∷ 50 ∷ 9 ∷ 48 ∷ 9 ∷ 49 ∷ 10
    -- W|10|1|0
    ∷ 87 ∷ 9 ∷ 49 ∷ 48 ∷ 9 ∷ 49 ∷ 9 ∷ 48 ∷ 10
    -- W|11|2|0
    ∷ 87 ∷ 9 ∷ 49 ∷ 49 ∷ 9 ∷ 50 ∷ 9 ∷ 48 ∷ 10
    -- C|11|1
    ∷ 67 ∷ 9 ∷ 49 ∷ 49 ∷ 9 ∷ 49 ∷ 10
    -- V|10|1
    ∷ 86 ∷ 9 ∷ 49 ∷ 48 ∷ 9 ∷ 49 ∷ 10
    -- C|10|2
    ∷ 67 ∷ 9 ∷ 49 ∷ 48 ∷ 9 ∷ 50 ∷ 10
    -- R|8|2|-40
    ∷ 82 ∷ 9 ∷ 56 ∷ 9 ∷ 50 ∷ 9 ∷ 45 ∷ 52 ∷ 48 ∷ 10
    -- R|7|1|0
    ∷ 82 ∷ 9 ∷ 55 ∷ 9 ∷ 49 ∷ 9 ∷ 48 ∷ 10
    -- A|12|3|1
    ∷ 65 ∷ 9 ∷ 49 ∷ 50 ∷ 9 ∷ 51 ∷ 9 ∷ 49 ∷ 10
    ∷ []

pub the_whole_run_as_text : (run_text the_log).text ≡ the_answers
unfolding
    computed sizes_fit opening_refusal the_log the_answers
    split is_digit digits_value well_led number signed decimal_from decimal_text signed_text
    bind each_part list_of write_parts a_write a_ballot a_snapshot
    opening_fields delivery_fields vote_fields change_fields read_fields by_letter by_fields record_of
    refusal_text opened_text outcome_text finishes_text delivery_text vote_text change_text read_text answer_text step_text
    open_record event_record take_record take_lines whole_lines run_text
the_whole_run_as_text = refl
