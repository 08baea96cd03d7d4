-- Why a line declares nothing, as documents name it.
use Rattle.std.specs.Prelude.{ℕ, List, codes}
use Rattle.tr_events.specs.declared.faults.EventFault.{EventFault}
use Rattle.tr_events.specs.declared.faults.EventFault.TheVariants.{BadEvent, BadField, BadType, NotAlone, FieldTwice, EventTaken, TooMany, BadVariable, BadValue, VariableTaken, TooManyVariables}

abbrev pub event_fault_code : EventFault → List ℕ
event_fault_code BadEvent = codes "V1"
event_fault_code BadField = codes "V2"
event_fault_code BadType = codes "V3"
event_fault_code NotAlone = codes "V4"
event_fault_code FieldTwice = codes "V5"
event_fault_code EventTaken = codes "V6"
event_fault_code TooMany = codes "V7"
event_fault_code BadVariable = codes "V8"
event_fault_code BadValue = codes "V9"
event_fault_code VariableTaken = codes "V10"
event_fault_code TooManyVariables = codes "V11"

abbrev pub event_fault_name : EventFault → List ℕ
event_fault_name BadEvent = codes "BadEvent"
event_fault_name BadField = codes "BadField"
event_fault_name BadType = codes "BadType"
event_fault_name NotAlone = codes "NotAlone"
event_fault_name FieldTwice = codes "FieldTwice"
event_fault_name EventTaken = codes "EventTaken"
event_fault_name TooMany = codes "TooMany"
event_fault_name BadVariable = codes "BadVariable"
event_fault_name BadValue = codes "BadValue"
event_fault_name VariableTaken = codes "VariableTaken"
event_fault_name TooManyVariables = codes "TooManyVariables"
