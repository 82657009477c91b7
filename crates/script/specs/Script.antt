-- A script: one number for each call. Its calls as the model's, and the code's replies as the model's.
use Rattle.std.specs.Prelude.{Result, Ok, Err, List, [], ◌∷◌, ℕ, zero, suc, ◌/◌, ◌%◌, ◌^◌}
use Rattle.model.specs.Claims.{Request, ask_check, ask_step, ask_run, Call, Reply, refused_by, checked, stepped, ran, Played}
use Rattle.refusal.specs.declared.Refusal.{Refusal}
use Rattle.refusal.specs.Rows.{number_of}
use Rattle.search.specs.Scene.{step_of}
use Rattle.service.specs.Entries.{run_reply}
use Rattle.script.specs.declared.Reply.{Reply as LastReply}
use Rattle.script.specs.declared.Reply.TheVariants.{Checked, Stepped, Ran}

-- Bits 0 to 31 of an item: the step limit of a run.
abbrev pub limit_span : ℕ
limit_span = 2 ^ 32

abbrev pub limit_of : ℕ → ℕ
limit_of item = item % limit_span

-- Bits 32 and 33: the kind of call, 0 a check, 1 one step, 2 and 3 a run.
abbrev pub kind_of : ℕ → ℕ
kind_of item = item / limit_span % 4

-- Bit 34: 1 where the call gets the other bytes in place of the plan's.
abbrev pub source_of : ℕ → ℕ
source_of item = item / limit_span / 4 % 2

-- Bits 35 on: how many of the words the call is lent, all where there are fewer.
abbrev pub lent_of : ℕ → ℕ
lent_of item = item / limit_span / 8

-- The request of a kind.
unfoldable pub request_of : ℕ → ℕ → Request
request_of zero limit = ask_check
request_of (suc zero) limit = ask_step
request_of (suc (suc kind)) limit = ask_run limit

abbrev pub request_in : ℕ → Request
request_in item = request_of (kind_of item) (limit_of item)

-- The bytes of a source.
unfoldable pub source_bytes : ℕ → List ℕ → List ℕ → List ℕ
source_bytes zero bytes other = bytes
source_bytes (suc source) bytes other = other

-- The call of an item, with the bytes that it gets.
abbrev pub call_with : List ℕ → ℕ → Call
call_with bytes item = record { bytes = bytes; lent = lent_of item; request = request_in item }

unfoldable pub call_of : List ℕ → List ℕ → ℕ → Call
call_of bytes other item = call_with (source_bytes (source_of item) bytes other) item

-- The calls of a script.
unfoldable pub calls_of : List ℕ → List ℕ → List ℕ → List Call
calls_of bytes other [] = []
calls_of bytes other (item ∷ script) = call_of bytes other item ∷ calls_of bytes other script

-- The code's reply as the model's.
unfoldable pub reply_is : Result LastReply Refusal → Reply
reply_is (Err refusal) = refused_by (number_of refusal)
reply_is (Ok Checked) = checked
reply_is (Ok (Stepped step)) = stepped (step_of step)
reply_is (Ok (Ran r)) = ran (run_reply r)

-- With the words afterwards.
abbrev pub played_by : Result LastReply Refusal → List ℕ → Played
played_by reply words = record { reply = reply_is reply; words = words }
