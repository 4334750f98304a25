-- Which fault of a hub stands for one of a cutter.
-- This project's own.
use Rattle.couch_http.specs.declared.fault.HttpFault.{HttpFault}
use Rattle.couch_http.specs.declared.fault.HttpFault.TheVariants as cutter
use Rattle.hub.specs.declared.fault.HubFault.{HubFault}
use Rattle.hub.specs.declared.fault.HubFault.TheVariants.{Closed, Memory}

abbrev pub fault_of_cutter : HttpFault → HubFault
fault_of_cutter cutter.Closed = Closed
fault_of_cutter cutter.Syntax = Memory
fault_of_cutter cutter.Encoding = Memory
fault_of_cutter cutter.TooLarge = Memory
fault_of_cutter cutter.Memory = Memory
